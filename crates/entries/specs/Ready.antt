-- What the tests of soundness show of a store's levels: page counts within the rooms, and levels that ascend. Assumes nothing.
use Rattle.std.specs.Prelude.{ℕ, zero, suc, ◌+◌, ◌-◌, ◌*◌, ◌≤◌, ◌<◌, ◌≡◌, refl, Bool, true, false, ◌&&◌, ◌||◌, List, [], ◌∷◌, length, get_or, take, drop, leb, ltb, eqb}
use Rattle.std.proofs.Common.{arith, ap, ◌∙◌}
use Rattle.laws.specs.Lists.{span, all, equal}
use Rattle.laws.specs.Tests.{and_left, and_right}
use Rattle.geometry.specs.declared.Geometry.{Geometry}
use Rattle.geometry.specs.Geometry.{room}
use Rattle.geometry.specs.Places.{head_count_word, head_room, level_start}
use Rattle.slot.specs.declared.Slot.{Slot}
use Rattle.slot.specs.Pair.{rank, before, same}
use Rattle.slot.specs.Order.{before_below, same_level}
use Rattle.std.specs.Prelude.{Ok}
use Rattle.rules.specs.Tree.{Level}
use Rattle.rules.specs.Level.{fence_kind, pages_for}
use Rattle.rules.specs.Finding.{normal_kind}
use Rattle.rules.specs.Store.{level_words}
use Rattle.rules.specs.Sound.{head_slots, level_slots, entries_of, tree_of, directory_right, follows, in_order, legal, fence_pages, first_is_least, head_right, page_formed, ascending, level_laid, within_capacity, level_sound}
use Rattle.rules.specs.Faults.{writing_faults, fault}
use Rattle.rules.specs.Faultless.{writings_sound, sound_writings, sound_right, fault_sound}
use Rattle.geometry.specs.Directory.{pages_of}
use Rattle.rules.specs.Directed.{pages_fit}
use Rattle.entries.specs.Levels.{PagesWithin}
use Rattle.entries.specs.Ascending.{From, from_lower_lem, ascending_from, levels_ascend, chain_first}

-- The directory's page counts -----------------------------------------------------------------------------------------------------------------

pub pages_within : (g : Geometry) (w : List ℕ) → directory_right g w ≡ true → PagesWithin g w
pages_within g w right = record { first = fit 1 (omega arith) (omega arith); second = fit 2 (omega arith) (omega arith); third = fit 3 (omega arith) (omega arith) }
  where
    fit : (i : ℕ) → 1 ≤ i → i ≤ 3 → pages_of g w i ≤ room g i
    fit = pages_fit g w right

-- Slots in order have entries that ascend ------------------------------------------------------------------------------------------------------

-- What an entry after a slot is at least.
bound : Slot → ℕ
bound s = elim (fence_kind s.kind) [ true ↦ rank s.pair | false ↦ suc (rank s.pair) ]

follows_bound : (s u : Slot) → follows s u ≡ true → bound s ≤ rank u.pair
unfolding follows bound
follows_bound s u e = picked (before s.pair u.pair) (same s.pair u.pair) (fence_kind s.kind) refl refl e
  where
    picked : (b c fence : Bool) → before s.pair u.pair ≡ b → same s.pair u.pair ≡ c → (b || (c && fence)) ≡ true →
        elim fence as (λ _. ℕ) [ true ↦ rank s.pair | false ↦ suc (rank s.pair) ] ≤ rank u.pair
    picked true c true x y q = omega (arith, before_below s.pair u.pair x)
    picked true c false x y q = before_below s.pair u.pair x
    picked false true true x y q = omega (arith, same_level s.pair u.pair y)
    picked false true false x y q = let z : ◌≡◌ {A = ℕ} 0 1 = cc in absurd (omega arith)
    picked false false fence x y q = let z : ◌≡◌ {A = ℕ} 0 1 = cc in absurd (omega arith)

entries_on : (n : ℕ) (u : Slot) (us : List Slot) → n ≤ rank u.pair → From (bound u) (entries_of us) → From n (entries_of (u ∷ us))
unfolding entries_of bound From
entries_on n u us h a = picked (fence_kind u.kind) a
  where
    picked : (fence : Bool) → From (elim fence [ true ↦ rank u.pair | false ↦ suc (rank u.pair) ]) (entries_of us) →
        From n (elim fence [ true ↦ entries_of us | false ↦ record { pair = u.pair; normal = normal_kind u.kind } ∷ entries_of us ])
    picked true b = from_lower_lem n (rank u.pair) (entries_of us) h b
    picked false b = (h, b)

order_from : (s : Slot) (ss : List Slot) → in_order (s ∷ ss) ≡ true → From (bound s) (entries_of ss)
unfolding in_order entries_of From
order_from s [] e = tt
order_from s (u ∷ us) e =
    let told = chain_first (follows s u) (in_order (u ∷ us)) e in
    entries_on (bound s) u us (follows_bound s u told.0) (order_from u us told.1)

order_ascends : (ss : List Slot) → in_order ss ≡ true → ascending (entries_of ss) ≡ true
unfolding entries_of ascending
order_ascends [] e = refl
order_ascends (s ∷ ss) e = ascending_from 0 (entries_of (s ∷ ss)) (entries_on 0 s ss (omega arith) (order_from s ss e))

-- The levels of a store that passed ---------------------------------------------------------------------------------------------------------------

pub head_ascends : (g : Geometry) (w : List ℕ) → head_right g w ≡ true → ascending (entries_of (head_slots g w)) ≡ true
unfolding head_right
head_ascends g w e =
    let ss : List Slot = head_slots g w in
    let a : Bool = leb (get_or w head_count_word 0) (head_room g) && ltb (length (entries_of ss)) g.head in
    let c : Bool = all (legal false (pages_of g w 1)) ss in
    let d : Bool = equal (fence_pages ss) (span (λ p. p) 0 (pages_of g w 1)) in
    let f : Bool = first_is_least ss in
    order_ascends ss (and_right a (in_order ss) (and_left (a && in_order ss) c (and_left (a && in_order ss && c) d (and_left (a && in_order ss && c && d) f e))))

pub level_ascends : (g : Geometry) (w : List ℕ) (i : ℕ) → level_sound g w i ≡ true → ascending (entries_of (level_slots g w i)) ≡ true
unfolding level_sound
level_ascends g w i e =
    let es : Level = entries_of (level_slots g w i) in
    let slots : List Slot = level_laid g w i es in
    let a : Bool = all (page_formed g w i) (span (λ p. p) 0 (pages_of g w i)) in
    let c : Bool = eqb (pages_for (length slots)) (pages_of g w i) in
    let d : Bool = equal (take (64 * room g i) (drop (level_start g i) w)) (level_words slots (room g i)) in
    let f : Bool = within_capacity g i (length es) in
    and_right a (ascending es) (and_left (a && ascending es) c (and_left (a && ascending es && c) d (and_left (a && ascending es && c && d) f e)))

all_span : (f : ℕ → Level) (i n : ℕ) → ((j : ℕ) → i ≤ j → j < i + n → ascending (f j) ≡ true) → all ascending (span f i n) ≡ true
unfolding all span
all_span f i zero h = refl
all_span f i (suc n) h =
    ap (λ (b : Bool). elim b [ true ↦ all ascending (span f (suc i) n) | false ↦ false ]) (h i (omega arith) (omega arith)) ∙
    all_span f (suc i) n (λ j a b. h j (omega arith) (omega arith))

pub tree_ascends : (g : Geometry) (w : List ℕ) → head_right g w ≡ true → ((i : ℕ) → 1 ≤ i → i < 1 + (g.levels - 1) → level_sound g w i ≡ true) →
    levels_ascend (tree_of g w) ≡ true
unfolding levels_ascend tree_of all
tree_ascends g w h k =
    ap (λ (b : Bool). elim b [ true ↦ all ascending (span (λ i. entries_of (level_slots g w i)) 1 (g.levels - 1)) | false ↦ false ]) (head_ascends g w h) ∙
    all_span (λ i. entries_of (level_slots g w i)) 1 (g.levels - 1) (λ j a b. level_ascends g w j (k j a b))

-- A sound store is ready for the calls of this crate's users, and so is one that has no fault but across levels.
pub writings_ready : (g : Geometry) (w : List ℕ) → directory_right g w ≡ true → writing_faults g w ≡ Ok tt → PagesWithin g w × (levels_ascend (tree_of g w) ≡ true)
writings_ready g w right none =
    let told = writings_sound g w none in
    (pages_within g w right, tree_ascends g w (sound_right g w told.0) (λ i l u. told.1 i l (omega arith)))

pub sound_ready : (g : Geometry) (w : List ℕ) → fault g w ≡ Ok tt → PagesWithin g w × (levels_ascend (tree_of g w) ≡ true)
sound_ready g w none =
    let told = fault_sound g w none in
    writings_ready g w told.directory (sound_writings g w told.head_sound_lem told.levels)
