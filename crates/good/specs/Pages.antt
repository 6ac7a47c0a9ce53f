-- How many slots a level's writing takes and in how many pages: at most one internal fence a page. Assumes nothing.
use Rattle.std.specs.Prelude.{ℕ, suc, ◌+◌, ◌*◌, ◌/◌, ◌%◌, ◌≤◌, ◌≡◌, refl, Bool, true, false, List, ◌∷◌, length, eqb}
use Rattle.std.proofs.Common.{arith, ap, ◌∙◌, eqb-true}
use Rattle.std.proofs.lemmas.Bool.{eqb-false}
use Rattle.laws.specs.Lists.{length_span}
use Rattle.slot.specs.declared.Slot.{Slot}
use Rattle.rules.specs.Tree.{Level}
use Rattle.rules.specs.Level.{pages_for, first_among, fence_of, fences, weave, paged, over}
use Rattle.rules.specs.Woven.{by_weaving}
use Rattle.rules.specs.Paged.{by_paging}
use Rattle.geometry.specs.Places.{slots_in_page}

-- Entries and fences woven are all of both.
pub weave_length : (es : Level) (fs : List Slot) → length (weave es fs) ≡ length es + length fs
weave_length =
    by_weaving (λ es fs row. length row ≡ length es + length fs) (λ fs. omega arith) (λ e es fs row c ih. omega (arith, ih))
    (λ e es f fs row c ih. omega (arith, ih))

pub over_length : (es : Level) (below : List Slot) → length (over es below) ≡ length es + pages_for (length below)
unfolding over fences
over_length es below =
    weave_length es (fences (first_among below) (pages_for (length below))) ∙ ap (λ (n : ℕ). length es + n) (length_span (fence_of (first_among below)) 0 (pages_for (length below)))

-- Written on from slot j of a page that holds c of the items so far, every page but the last holds 20 items at least.
abbrev Economical : ℕ → List Slot → List Slot → Type 0
Economical j ss row = (c : ℕ) → j ≤ 20 → j ≤ suc c → j ≤ 20 * c → (j + length row + 20) / slots_in_page ≤ (c + length ss + 19) / 20

-- One slot for the item: in this page, or as the last of it.
item_economical : (j : ℕ) (s : Slot) (ss row : List Slot) → Economical ((j + 1) % 21) ss row → Economical j (s ∷ ss) (s ∷ row)
item_economical j s ss row rest c h a b = stands (eqb j 20) refl
  where
    stands : (z : Bool) → eqb j 20 ≡ z → (j + suc (length row) + 20) / 21 ≤ (c + suc (length ss) + 19) / 20
    stands true e =
        let q : (j + 1) % 21 ≡ 0 = omega (arith, eqb-true j 20 e) in
        omega (arith, eqb-true j 20 e, rest 0 (omega (arith, q)) (omega (arith, q)) (omega (arith, q)))
    stands false e =
        let n : ¬ (j ≡ 20) = eqb-false j 20 e in
        let q : (j + 1) % 21 ≡ suc j = omega arith in
        omega (arith, rest (suc c) (omega (arith, q)) (omega (arith, q)) (omega (arith, q)))

paged_economical : (j last : ℕ) (ss : List Slot) → Economical j ss (paged j last ss)
paged_economical =
    by_paging (λ j last ss row. Economical j ss row) (λ j last c h a b. omega arith) (λ j last s ss row k ih. item_economical j s ss row ih)
    (λ last s ss row k ih c h a b. omega (arith, ih 1 (omega arith) (omega arith) (omega arith)))
    (λ j last s ss row k n ih. item_economical j s ss row ih)

-- So a level of n items above the bottom takes n / 20 pages at most, rounded up, and at least one.
pub paged_pages : (ss : List Slot) (n : ℕ) → 1 ≤ n → length ss ≤ n → pages_for (length (paged 0 0 ss)) ≤ (n + 19) / 20
unfolding pages_for
paged_pages ss n h l = omega (arith, paged_economical 0 0 ss 0 (omega arith) (omega arith) (omega arith))

pub pages_within : (m n : ℕ) → 1 ≤ n → m ≤ n → pages_for m ≤ (n + 20) / 21
unfolding pages_for
pages_within m n h l = omega arith
