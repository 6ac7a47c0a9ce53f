-- The writing as a stream: at each position of a row the slot that the writing of the row's own entries has there, from the next entry
-- and the next fence alone. A row follows the stream exactly if it is that writing. Assumes nothing.
use Prim.Native.Nat.{ℕ, zero, suc, ◌+◌, ◌-◌, ◌%◌, ◌≤◌, ◌<◌}
use Rattle.std.proofs.Math.Numerals.{add-one}
use native.Mathlib.Omega.{arith}
use Rattle.std.proofs.Math.Path.{◌≡◌, refl, sym, ap}
use Rattle.std.proofs.Common.{◌∙◌}
use Rattle.std.specs.Prelude.{Bool, ◌&&◌, ◌||◌}
use Rattle.std.proofs.Math.Bool.{true, false, cond, not}
use mathlib.Core.List.{List, [], ◌∷◌}
use Rattle.std.proofs.Math.Dec.{leb, eqb}
use borrow.Author.Tests.{leb-true, leb-false, not-true, eqb-true, eq-eqb}
use Rattle.laws.specs.Tests.{and_left, and_right}
use Rattle.laws.specs.Lists.{span}
use Rattle.slot.specs.declared.Pair.{Pair}
use Rattle.slot.specs.declared.Slot.{Slot}
use Rattle.slot.specs.declared.Kind.{Kind}
use Rattle.slot.specs.declared.Kind.TheVariants.{Normal, Filter, External, Internal}
use Rattle.slot.specs.Pair.{before, least}
use Rattle.slot.specs.Tag.{kind_number, tag_of, kind_back}
use Rattle.rules.specs.Tree.{Entry, Level}
use Rattle.rules.specs.Level.{index, external, internal, fence_kind, fence_of, place, weave, paged}
use Rattle.rules.specs.Finding.{normal_kind}
use Rattle.rules.specs.Sound.{entries_of}
use Rattle.geometry.specs.Places.{slots_in_page}

-- Whether two slots are one: badge, floor, kind and page number.
unfoldable pub same_slot : Slot → Slot → Bool
same_slot a b =
    eqb a.pair.badge b.pair.badge && eqb a.pair.floor.0 b.pair.floor.0 && eqb (kind_number a.kind) (kind_number b.kind) &&
    eqb a.page.0 b.page.0

pub same_slot_lem : (a b : Slot) → same_slot a b ≡ true → a ≡ b
unfolding same_slot tag_of
same_slot_lem a b h =
    let badges = eqb a.pair.badge b.pair.badge in
    let floors = eqb a.pair.floor.0 b.pair.floor.0 in
    let kinds = eqb (kind_number a.kind) (kind_number b.kind) in
    let pages = eqb a.page.0 b.page.0 in
    let front = and_left (badges && floors && kinds) pages h in
    let pair = and_left (badges && floors) kinds front in
    let x : a.pair.badge ≡ b.pair.badge = eqb-true _ _ (and_left badges floors pair) in
    let y : a.pair.floor.0 ≡ b.pair.floor.0 = eqb-true _ _ (and_right badges floors pair) in
    let k : kind_number a.kind ≡ kind_number b.kind = eqb-true _ _ (and_right (badges && floors) kinds front) in
    let z : a.page.0 ≡ b.page.0 = eqb-true _ _ (and_right (badges && floors && kinds) pages h) in
    let tag : tag_of a.kind b.page ≡ tag_of b.kind b.page = omega arith in
    let q : a.kind ≡ b.kind = sym (kind_back a.kind b.page) ∙ rw tag (kind_back b.kind b.page) in
    λ i. record { pair = record { badge = x i; floor = record { 0 = y i } }; kind = q i; page = record { 0 = z i } }

pub slot_same : (a b : Slot) → a ≡ b → same_slot a b ≡ true
unfolding same_slot
slot_same a b e =
    rw e (rw (
      eq-eqb b.pair.badge b.pair.badge refl,
      eq-eqb b.pair.floor.0 b.pair.floor.0 refl,
      eq-eqb (kind_number b.kind) (kind_number b.kind) refl,
      eq-eqb b.page.0 b.page.0 refl,
    ) refl)

-- The index entry that a slot holds.
abbrev pub entry_of : Slot → Entry
entry_of s = record { pair = s.pair; normal = normal_kind s.kind }

-- A fence and an index entry are never one slot.
pub slots_apart : (a b : Slot) → fence_kind a.kind ≡ not (fence_kind b.kind) → same_slot a b ≡ false
slots_apart a b d = chosen (same_slot a b) refl
  where
    differs : (x : Bool) → x ≡ not x → ◌≡◌ {A = Bool} true false
    differs true e = e
    differs false e = sym e

    chosen : (t : Bool) → same_slot a b ≡ t → t ≡ false
    chosen true q = differs (fence_kind b.kind) (ap (λ (s : Slot). fence_kind s.kind) (sym (same_slot_lem a b q)) ∙ d)
    chosen false q = refl

-- Whether a slot is the one that its index entry is written in: no fence, with page number 0.
unfoldable pub is_index : Slot → Bool
is_index s = not (fence_kind s.kind) && eqb s.page.0 0

pub index_same : (s : Slot) → same_slot s (index (entry_of s)) ≡ is_index s
unfolding same_slot index is_index
index_same s =
    rw (eq-eqb s.pair.badge s.pair.badge refl, eq-eqb s.pair.floor.0 s.pair.floor.0 refl) (chosen s.kind)
  where
    chosen : (k : Kind) → (eqb (kind_number k) (kind_number (elim (normal_kind k) [ true ↦ Normal | false ↦ Filter ])) && eqb s.page.0 0) ≡
        (not (fence_kind k) && eqb s.page.0 0)
    chosen Normal = refl
    chosen Filter = refl
    chosen External = refl
    chosen Internal = refl

pub index_entry : (s : Slot) → is_index s ≡ true → fence_kind s.kind ≡ false
unfolding is_index
index_entry s e = not-true (fence_kind s.kind) (and_left (not (fence_kind s.kind)) (eqb s.page.0 0) e)

pub fence_no_index : (s : Slot) → fence_kind s.kind ≡ true → is_index s ≡ false
unfolding is_index
fence_no_index s f = rw f refl

-- The next fence after a slot of a kind.
abbrev pub passed : Kind → ℕ → ℕ
passed Normal p = p
passed Filter p = p
passed External p = p + 1
passed Internal p = p

-- Where internal fences go, a row's slots from position n on with them, after the fence p − 1.
unfoldable pub cut : Bool → ℕ → ℕ → List Slot → List Slot
cut true n p ss = paged (n % slots_in_page) (p - 1) ss
cut false n p ss = ss

-- The fence of page 0, and of any other.
pub fence_zero : (first : ℕ → Pair) (a : Pair) (p : ℕ) → p ≡ 0 → a ≡ least → external a 0 ≡ fence_of first p
unfolding fence_of
fence_zero first a zero z e = rw e refl
fence_zero first a (suc p) z e = absurd (omega arith)

pub fence_later : (first : ℕ → Pair) (p : ℕ) → (p ≡ 0 → ⊥) → external (first p) p ≡ fence_of first p
unfolding fence_of
fence_later first zero n = absurd (n refl)
fence_later first (suc p) n = refl

-- An index entry is no fence.
pub entry_kind : (e : Entry) → fence_kind (index e).kind ≡ false
unfolding index
entry_kind e = chosen e.normal
  where
    chosen : (b : Bool) → fence_kind (elim b [ true ↦ Normal | false ↦ Filter ]) ≡ false
    chosen true = refl
    chosen false = refl

entry_pair : (e : Entry) → (index e).pair ≡ e.pair
unfolding index
entry_pair e = refl

-- The next fence stays the next after an entry or an internal fence.
pub entry_passed : (e : Entry) (p : ℕ) → passed (index e).kind p ≡ p
unfolding index
entry_passed e p = chosen e.normal
  where
    chosen : (b : Bool) → passed (elim b [ true ↦ Normal | false ↦ Filter ]) p ≡ p
    chosen true = refl
    chosen false = refl

pub internal_passed : (a : Pair) (n p : ℕ) → passed (internal a n).kind p ≡ p
unfolding internal
internal_passed a n p = refl

page_on : (n : ℕ) → (n % 21 + 1) % 21 ≡ (n + 1) % 21
page_on n = omega arith

-- An entry that would be first in a page has an internal fence before it, where internal fences go.
unfoldable pub fenced_at : Bool → ℕ → Bool
fenced_at inner n = inner && eqb (n % slots_in_page) 0

module _ (first : ℕ → Pair) (below : ℕ) where
  -- An entry comes next where no fence is left, or the next one is above it.
  unfoldable pub entry_next : ℕ → Pair → Bool
  entry_next p a = leb below p || before a (fence_of first p).pair

  -- Where an entry does not come next, a fence is left.
  pub fence_left : (p : ℕ) (a : Pair) → entry_next p a ≡ false → p < below
  unfolding entry_next
  fence_left p a h = chosen (leb below p) refl h
    where
      chosen : (b : Bool) → leb below p ≡ b → (b || before a (fence_of first p).pair) ≡ false → p < below
      chosen true q t = let z : ◌≡◌ {A = ℕ} 0 1 = cc in absurd (omega arith)
      chosen false q t = leb-false below p q

module _ (inner : Bool) (first : ℕ → Pair) (below : ℕ) where
  -- The fences from p on, and the writing from position n on of these entries and the fences from p on.
  unfoldable pub fences_from : ℕ → List Slot
  fences_from p = span (fence_of first) p (below - p)

  unfoldable pub laid_from : ℕ → ℕ → Level → List Slot
  laid_from n p es = cut inner n p (weave es (fences_from p))

  -- The slot at position n, and the entries left after it.
  unfoldable pub wanted : ℕ → ℕ → Level → Slot
  wanted n p [] = fence_of first p
  wanted n p (e ∷ es) = cond (entry_next first below p e.pair) (cond (fenced_at inner n) (internal e.pair (p - 1)) (index e)) (fence_of first p)

  unfoldable pub left : ℕ → ℕ → Level → Level
  left n p [] = []
  left n p (e ∷ es) = cond (entry_next first below p e.pair && not (fenced_at inner n)) es (e ∷ es)

  -- Neither an entry nor a fence is left.
  unfoldable pub ended : ℕ → Level → Bool
  ended p [] = leb below p
  ended p (e ∷ es) = false

  -- Whether the slots from position n on are the stream, slot by slot, to its end.
  unfoldable pub are_stream : ℕ → ℕ → List Slot → Bool
  are_stream n p [] = leb below p
  are_stream n p (s ∷ ss) =
      let es = entries_of (s ∷ ss) in
      not (ended p es) && same_slot s (wanted n p es) && are_stream (n + 1) (passed s.kind p) ss

  fences_next : (p : ℕ) → p < below → fences_from p ≡ fence_of first p ∷ fences_from (p + 1)
  unfolding fences_from span
  fences_next p h =
      let e : below - p ≡ suc (below - (p + 1)) = omega arith in
      rw (e, add-one p) refl

  fences_none : (p : ℕ) → below ≤ p → fences_from p ≡ []
  unfolding fences_from span
  fences_none p h =
      let e : below - p ≡ 0 = omega arith in
      rw e refl

  -- What the writing has next -------------------------------------------------------------------------------------------------------------

  -- An entry, where it comes next; a fence, where it does; nothing, where neither is left.
  pub weave_entry : (p : ℕ) (e : Entry) (es : Level) → entry_next first below p e.pair ≡ true → weave (e ∷ es) (fences_from p) ≡ index e ∷ weave es (fences_from p)
  unfolding weave place entry_next
  weave_entry p e es h = chosen (leb below p) refl h
    where
      chosen : (b : Bool) → leb below p ≡ b → (b || before e.pair (fence_of first p).pair) ≡ true →
          place e (weave es) (fences_from p) ≡ index e ∷ weave es (fences_from p)
      chosen true q t = rw (fences_none p (leb-true below p q)) refl
      chosen false q t =
          let n : before e.pair (fence_of first p).pair ≡ true = t in
          rw (fences_next p (leb-false below p q), place, n) refl

  pub weave_fence : (p : ℕ) (e : Entry) (es : Level) → entry_next first below p e.pair ≡ false →
      weave (e ∷ es) (fences_from p) ≡ fence_of first p ∷ weave (e ∷ es) (fences_from (p + 1))
  unfolding weave place entry_next
  weave_fence p e es h = chosen (leb below p) refl h
    where
      chosen : (b : Bool) → leb below p ≡ b → (b || before e.pair (fence_of first p).pair) ≡ false →
          place e (weave es) (fences_from p) ≡ fence_of first p ∷ place e (weave es) (fences_from (p + 1))
      chosen true q t = cc
      chosen false q t =
          let n : before e.pair (fence_of first p).pair ≡ false = t in
          rw (fences_next p (leb-false below p q), place, n) refl

  -- A fence of the row is external, and passes to the next.
  pub fence_kind_lem : (p : ℕ) → (fence_of first p).kind ≡ External
  unfolding fence_of external
  fence_kind_lem zero = refl
  fence_kind_lem (suc p) = refl

  pub fence_passed : (p : ℕ) → passed (fence_of first p).kind p ≡ p + 1
  unfolding fence_of external
  fence_passed zero = refl
  fence_passed (suc p) = refl

  -- Cutting passes a fence and an entry, and puts an internal fence before an entry that is first in a page.
  pub cut_fence : (b : Bool) (n p : ℕ) (ss : List Slot) → cut b n p (fence_of first p ∷ ss) ≡ fence_of first p ∷ cut b (n + 1) (p + 1) ss
  unfolding cut paged fence_of external
  cut_fence true n zero ss = rw (page_on n) refl
  cut_fence true n (suc p) ss =
      let z : suc p + 1 - 1 ≡ suc p = omega arith in
      rw (page_on n, z) refl
  cut_fence false n p ss = refl

  pub cut_entry : (b : Bool) (n p : ℕ) (e : Entry) (ss : List Slot) → (b && eqb (n % 21) 0) ≡ false → cut b n p (index e ∷ ss) ≡ index e ∷ cut b (n + 1) p ss
  unfolding cut paged
  cut_entry true n p e ss h =
      let q : eqb (n % 21) 0 ≡ false = h in
      rw (entry_kind e, q, paged, page_on n) refl
  cut_entry false n p e ss h = refl

  pub cut_first : (b : Bool) (n p : ℕ) (e : Entry) (ss : List Slot) → (b && eqb (n % 21) 0) ≡ true →
      cut b n p (index e ∷ ss) ≡ internal e.pair (p - 1) ∷ cut b (n + 1) p (index e ∷ ss)
  unfolding cut paged
  cut_first true n p e ss h =
      let z : n % 21 ≡ 0 = eqb-true (n % 21) 0 h in
      let o : (n + 1) % 21 ≡ 1 = omega arith in
      rw (z, o) (rw (entry_kind e, paged) (rw (entry_pair e) refl))
  cut_first false n p e ss h = cc

  -- So the writing goes on: with a fence alone, with an entry, and with an entry or a fence.
  pub laid_fence : (n p : ℕ) → p < below → cut inner n p (weave [] (fences_from p)) ≡ fence_of first p ∷ cut inner (n + 1) (p + 1) (weave [] (fences_from (p + 1)))
  unfolding weave
  laid_fence n p b = rw (fences_next p b) (cut_fence inner n p (fences_from (p + 1)))

  pub laid_ended : (n p : ℕ) (es : Level) → ended p es ≡ true → laid_from n p es ≡ []
  unfolding laid_from ended weave cut paged
  laid_ended n p [] h = rw (fences_none p (leb-true below p h)) (nothing inner)
    where
      nothing : (b : Bool) → cut b n p [] ≡ []
      nothing true = refl
      nothing false = refl
  laid_ended n p (e ∷ es) h = cc

  -- After a slot that is the wanted one, the entries left are those of the slots behind it.
  left_fence : (n p : ℕ) (es : Level) → fence_kind (wanted n p es).kind ≡ true → left n p es ≡ es
  unfolding wanted left
  left_fence n p [] h = refl
  left_fence n p (e ∷ es) h = chosen (entry_next first below p e.pair) (fenced_at inner n) h
    where
      chosen : (a b : Bool) → fence_kind (cond a (cond b (internal e.pair (p - 1)) (index e)) (fence_of first p)).kind ≡ true →
          cond (a && not b) es (e ∷ es) ≡ e ∷ es
      chosen true true h = refl
      chosen true false h = let z : ◌≡◌ {A = Bool} true false = sym h ∙ entry_kind e in cc
      chosen false true h = refl
      chosen false false h = refl

  left_entry : (n p : ℕ) (e : Entry) (es : Level) → fence_kind (wanted n p (e ∷ es)).kind ≡ false → left n p (e ∷ es) ≡ es
  unfolding wanted left internal
  left_entry n p e es h = chosen (entry_next first below p e.pair) (fenced_at inner n) h
    where
      fence_refused : fence_kind (fence_of first p).kind ≡ false → ◌≡◌ {A = Bool} true false
      fence_refused h = ap fence_kind (sym (fence_kind_lem p)) ∙ h

      chosen : (a b : Bool) → fence_kind (cond a (cond b (internal e.pair (p - 1)) (index e)) (fence_of first p)).kind ≡ false →
          cond (a && not b) es (e ∷ es) ≡ es
      chosen true true h = let z : ◌≡◌ {A = Bool} true false = h in cc
      chosen true false h = refl
      chosen false true h = let z = fence_refused h in cc
      chosen false false h = let z = fence_refused h in cc

  pub left_behind : (n p : ℕ) (s : Slot) (ss : List Slot) → s ≡ wanted n p (entries_of (s ∷ ss)) → left n p (entries_of (s ∷ ss)) ≡ entries_of ss
  unfolding entries_of
  left_behind n p s ss h = chosen (fence_kind s.kind) refl h
    where
      chosen : (b : Bool) → fence_kind s.kind ≡ b → s ≡ wanted n p (elim b [ true ↦ entries_of ss | false ↦ entry_of s ∷ entries_of ss ]) →
          left n p (elim b [ true ↦ entries_of ss | false ↦ entry_of s ∷ entries_of ss ]) ≡ entries_of ss
      chosen true q w = left_fence n p (entries_of ss) (ap (λ (x : Slot). fence_kind x.kind) (sym w) ∙ q)
      chosen false q w = left_entry n p (entry_of s) (entries_of ss) (ap (λ (x : Slot). fence_kind x.kind) (sym w) ∙ q)
