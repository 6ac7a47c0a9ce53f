-- The slots of the empty tree: in each level above the bottom the fence to page 0 alone, in the bottom none. Assumes nothing.
use Prim.Native.Nat.{ℕ, zero, suc, ◌+◌, ◌-◌, ◌≤◌, ◌<◌}
use Rattle.std.proofs.Common.{arith, ◌∙◌, eqb-true, ne_eqb}
use Rattle.std.specs.Prelude.{◌≡◌, refl, ◌≢◌, Bool, true, false, length, get_or, eqb}
use Rattle.std.proofs.Math.Path.{ap}
use mathlib.Core.List.{List, [], ◌∷◌, ◌++◌}
use Rattle.std.proofs.Math.ListN.{replicate, get_or-append}
use Rattle.std.proofs.lemmas.List.{length-replicate, get_or-replicate, get_or_at}
use Rattle.std.proofs.lemmas.Bool.{eqb-false}
use Rattle.laws.specs.Lists.{span}
use Rattle.geometry.specs.declared.Geometry.{Geometry}
use Rattle.geometry.specs.Geometry.{InRange, bottom}
use Rattle.slot.specs.declared.Slot.{Slot}
use Rattle.slot.specs.Pair.{least}
use Rattle.rules.specs.Level.{external, pages_for, fence_of, fences, weave, paged, over, lay_on, laid, head_on, slots_of}
use Rattle.rules.specs.Merging.{formatted}

-- The fence with the least pair to page 0, and a level that holds nothing else.
abbrev pub first_fence : Slot
first_fence = external least 0

abbrev pub fence_alone : List Slot
fence_alone = first_fence ∷ []

-- What a level without entries holds, over one page: the fence alone, and nothing in the bottom.
abbrev pub empty_row : Bool → List Slot
empty_row true = []
empty_row false = fence_alone

unfoldable pub empty_slots : Geometry → List (List Slot)
empty_slots g = slots_of (formatted g).tree

-- Over one page, a level without entries has its fence alone.
empty_laid : (n : ℕ) → laid (replicate (suc n) []) ≡ replicate n fence_alone ++ [] ∷ []
unfolding laid lay_on over weave fences fence_of span paged external pages_for
empty_laid zero = refl
empty_laid (suc zero) = refl
empty_laid (suc (suc n)) = rw (empty_laid (suc n)) refl

empty_rows : (n : ℕ) → slots_of (replicate (suc (suc n)) []) ≡ replicate (suc n) fence_alone ++ [] ∷ []
unfolding slots_of head_on over weave fences fence_of span pages_for
empty_rows zero = rw (empty_laid zero) refl
empty_rows (suc n) = rw (empty_laid (suc n)) refl

module _ (g : Geometry) (fit : InRange g) where
  pub empty_slots_lem : empty_slots g ≡ replicate (bottom g) fence_alone ++ [] ∷ []
  unfolding empty_slots formatted
  empty_slots_lem =
      let l : g.levels ≡ suc (suc (bottom g - 1)) = omega (arith, fit.levels_least) in
      let b : suc (bottom g - 1) ≡ bottom g = omega (arith, fit.levels_least) in
      ap (λ (n : ℕ). slots_of (replicate n [])) l ∙ empty_rows (bottom g - 1) ∙ ap (λ (n : ℕ). replicate n fence_alone ++ [] ∷ []) b

  -- Each level's row; it takes one page.
  pub row_at : (i : ℕ) → i < g.levels → get_or (empty_slots g) i [] ≡ empty_row (eqb (i + 1) g.levels)
  row_at i h = chosen (eqb (i + 1) g.levels) refl
    where
      chosen : (b : Bool) → eqb (i + 1) g.levels ≡ b → get_or (empty_slots g) i [] ≡ empty_row b
      chosen true t =
          let e : i ≡ bottom g = omega (arith, eqb-true (i + 1) g.levels t) in
          rw (e, empty_slots_lem) (get_or_at (replicate (bottom g) fence_alone) [] [] [] (bottom g) (length-replicate (bottom g) fence_alone))
      chosen false t =
          let d : i + 1 ≢ g.levels = eqb-false (i + 1) g.levels t in
          rw (empty_slots_lem, get_or-append (replicate (bottom g) fence_alone) ([] ∷ []) [] i (rw (length-replicate (bottom g) fence_alone) (omega arith)))
          (get_or-replicate (bottom g) i fence_alone [] (omega arith))

  pub row_head : get_or (empty_slots g) 0 [] ≡ fence_alone
  row_head =
      let d : 1 ≢ g.levels = λ e. omega (arith, fit.levels_least) in
      row_at 0 (omega (arith, fit.levels_least)) ∙ rw (ne_eqb 1 g.levels d)

  pub row_short : (i : ℕ) → i < g.levels → length (get_or (empty_slots g) i []) ≤ 1
  row_short i h = rw (row_at i h) (short (eqb (i + 1) g.levels))
    where
      short : (b : Bool) → length (empty_row b) ≤ 1
      short true = omega arith
      short false = omega arith

  pub row_one_page : (i : ℕ) → i < g.levels → pages_for (length (get_or (empty_slots g) i [])) ≡ 1
  unfolding pages_for
  row_one_page i h = omega (arith, row_short i h)
