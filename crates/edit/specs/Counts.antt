-- The index entries of a run counted slot by slot and page by page, and those of each level. Assumes nothing.
use Prim.Native.Nat.{ℕ, suc, ◌+◌, ◌-◌, ◌*◌, ◌≤◌, ◌<◌}
use Rattle.std.proofs.Common.{zero-add, sym, length-append}
use Rattle.std.proofs.Math.Nat.{sub-zero, min-le_right}
use Rattle.std.proofs.Math.Numerals.{add-one}
use native.Mathlib.Omega.{arith}
use Rattle.std.specs.Prelude.{◌≡◌, refl, Bool, true, false, not, cond, get_or}
use mathlib.Core.List.{List, ◌∷◌}
use Rattle.std.proofs.Math.ListN.{length}
use Rattle.laws.specs.Lists.{span, concat}
use Rattle.geometry.specs.declared.Geometry.{Geometry}
use Rattle.geometry.specs.Geometry.{InRange}
use Rattle.rules.specs.Merging.{entries}
use Rattle.slot.specs.declared.Slot.{Slot}
use Rattle.slot.specs.Slot.{slot_at}
use Rattle.rules.specs.Tree.{Level}
use Rattle.rules.specs.Level.{fence_kind}
use Rattle.rules.specs.Finding.{normal_kind}
use Rattle.rules.specs.Sound.{tree_of, entries_of}
use Rattle.entries.specs.declared.Run.{Run}
use Rattle.entries.specs.Run.{Inside, count_in, place_in, page_in, entries_in, entries_joined}
use Rattle.entries.specs.Levels.{runs_of, tree_in, by_levels}

-- Those of the four runs are those of the tree that the words hold.
pub counts_told : (g : Geometry) (w : List ℕ) → InRange g → entries (tree_in w (runs_of g w)) ≡ entries (tree_of g w)
unfolding entries span
counts_told g w fit = by_levels g w fit (λ t u. entries u ≡ entries t) (λ a b. refl) (λ a b c. refl) (λ a b c d. refl)

-- So many of the first j of n slots are index entries; the slots from there on complete the count.
pub record SlotsCounted (at : ℕ → Slot) (n j count : ℕ) : Type 0 where
  pub inside : j ≤ n
  pub few : count ≤ j
  pub completes : count + length (entries_of (span at j (n - j))) ≡ length (entries_of (span at 0 n))

one_more : (s : Slot) (ss : List Slot) → length (entries_of (s ∷ ss)) ≡ cond (not (fence_kind s.kind)) 1 0 + length (entries_of ss)
unfolding entries_of
one_more s ss = by (fence_kind s.kind)
  where
    kept : Bool → Level
    kept fence = elim fence [ true ↦ entries_of ss | false ↦ record { pair = s.pair; normal = normal_kind s.kind } ∷ entries_of ss ]

    by : (fence : Bool) → length (kept fence) ≡ cond (not fence) 1 0 + length (entries_of ss)
    by true = sym (zero-add (length (entries_of ss)))
    by false = omega arith

cond_few : (b : Bool) → cond b 1 0 ≤ 1
cond_few true = omega arith
cond_few false = omega arith

module _ (at : ℕ → Slot) (n : ℕ) where
  pub slots_begin : SlotsCounted at n 0 0
  slots_begin = record { inside = omega arith; few = omega arith; completes = rw sub-zero (zero-add (length (entries_of (span at 0 n)))) }

  pub slots_go_on : (j count one : ℕ) (fence : Bool) → j < n → fence ≡ fence_kind (at j).kind → one ≡ cond (not fence) 1 0 → SlotsCounted at n j count →
      SlotsCounted at n (j + 1) (count + one)
  unfolding span
  slots_go_on j count one fence h f o c =
      let left : n - j ≡ suc (n - (j + 1)) = omega arith in
      let more : length (entries_of (span at j (n - j))) ≡ one + length (entries_of (span at (j + 1) (n - (j + 1)))) =
      rw (left, o, f, add-one j) (one_more (at j) (span at (suc j) (n - suc j))) in
      let small : one ≤ 1 = rw o (cond_few (not fence)) in
      record { inside = omega arith; few = omega (arith, c.few, small); completes = omega (arith, c.completes, more) }

  pub slots_end : (j count : ℕ) → n ≤ j → SlotsCounted at n j count → count ≡ length (entries_of (span at 0 n))
  unfolding span entries_of
  slots_end j count h c =
      let none : n - j ≡ 0 = omega arith in
      let rest : count + length (entries_of (span at j 0)) ≡ length (entries_of (span at 0 n)) = rw none at c.completes in
      omega (arith, rest)

-- So many are in the first p pages of a run; the pages from there on complete the count.
pub record PagesCounted (w : List ℕ) (run : Run) (p count : ℕ) : Type 0 where
  pub inside : p ≤ run.pages
  pub few : count ≤ 4000 * p
  pub completes : count + length (entries_of (concat (span (page_in w run) p (run.pages - p)))) ≡ length (entries_in w run)

module _ (w : List ℕ) (run : Run) where
  pub pages_begin : PagesCounted w run 0 0
  unfolding entries_in
  pages_begin = record { inside = omega arith; few = omega arith; completes = rw sub-zero (zero-add (length (entries_in w run))) }

  page_more : (p m : ℕ) → length (entries_of (concat (span (page_in w run) p (suc m)))) ≡
      length (entries_of (page_in w run p)) + length (entries_of (concat (span (page_in w run) (suc p) m)))
  unfolding span concat
  page_more p m =
      let below : List Slot = concat (span (page_in w run) (suc p) m) in
      rw (entries_joined (page_in w run p) below) (length-append (entries_of (page_in w run p)) (entries_of below))

  pub pages_go_on : (p count more : ℕ) → p < run.pages → more ≡ length (entries_of (page_in w run p)) → more ≤ 4000 → PagesCounted w run p count →
      PagesCounted w run (p + 1) (count + more)
  pages_go_on p count more h e small c =
      let left : run.pages - p ≡ suc (run.pages - (p + 1)) = omega arith in
      let joined : length (entries_of (concat (span (page_in w run) p (run.pages - p)))) ≡
      more + length (entries_of (concat (span (page_in w run) (p + 1) (run.pages - (p + 1))))) =
      rw (left, e, add-one p) (page_more p (run.pages - suc p)) in
      record { inside = omega arith; few = omega (arith, c.few, small); completes = omega (arith, c.completes, joined) }

  pub pages_end : (p count : ℕ) → run.pages ≤ p → PagesCounted w run p count → count ≡ length (entries_in w run)
  unfolding span concat entries_of
  pages_end p count h c =
      let none : run.pages - p ≡ 0 = omega arith in
      let rest : count + length (entries_of (concat (span (page_in w run) p 0))) ≡ length (entries_in w run) = rw none at c.completes in
      omega (arith, rest)

  -- So many slots of a page counted are the page's, and few.
  module _ (p n j count : ℕ) (e : n ≡ count_in w run p) (h : n ≤ j) (c : SlotsCounted (λ k. slot_at w (place_in run p k)) n j count) where
    pub page_counted : count ≡ length (entries_of (page_in w run p))
    unfolding page_in
    page_counted = rw (← e) (slots_end (λ k. slot_at w (place_in run p k)) n j count h c)

    pub page_few : (words : ℕ) → Inside run words → count ≤ 4000
    unfolding count_in
    page_few words i = omega (arith, c.few, c.inside, e, i.few_slots, min-le_right (get_or w (run.start + 64 * p) 0) run.most)
