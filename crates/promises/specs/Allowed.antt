-- Condition 3 on the rules: over any requests from a formatted store the pages written in all are at most those allowed to the number of
-- accepted ones. Assumes nothing.
use Prim.Native.Nat.{ℕ, zero, suc, ◌+◌, ◌*◌, ◌/◌, ◌≤◌}
use Rattle.std.proofs.Math.Nat.{add-mul, mul-le-mul_right}
use native.Mathlib.Omega.{arith}
use Rattle.std.specs.Prelude.{◌≡◌, Bool}
use Rattle.std.proofs.Math.Path.{refl}
use Rattle.std.proofs.Common.{ap, ◌∙◌, length-append}
use Rattle.std.proofs.Math.Bool.{true, false}
use mathlib.Core.List.{List, [], ◌∷◌}
use Rattle.std.proofs.Math.ListN.{length}
use Rattle.std.proofs.Math.Dec.{eqb}
use borrow.Author.Tests.{eqb-true, eqb-false}
use Rattle.laws.specs.Lists.{concat}
use Rattle.geometry.specs.declared.Geometry.{Geometry}
use Rattle.geometry.specs.Geometry.{capacity}
use Rattle.geometry.specs.Places.{room_before}
use Rattle.rules.specs.Merging.{Outcome}
use Rattle.rules.specs.Requests.{writes}
use Rattle.rules.specs.Allowance.{allowed_to}
use Rattle.promises.specs.Ledger.{once, once_some}
use Rattle.promises.specs.Pages.{cascade_room}

-- The most that m(i) merges of level i on write, for each i below a level, added up.
unfoldable pub merge_room : Geometry → (ℕ → ℕ) → ℕ → ℕ
merge_room g m zero = 0
merge_room g m (suc i) = merge_room g m i + m i * room_before g (suc (suc i))

module _ (g : Geometry) where
  -- More merges, or more levels, write more.
  pub more_merges : (m n : ℕ → ℕ) (i : ℕ) → ((j : ℕ) → m j ≤ n j) → merge_room g m i ≤ merge_room g n i
  unfolding merge_room
  more_merges m n zero h = omega arith
  more_merges m n (suc i) h = omega (arith, more_merges m n i h, mul-le-mul_right (room_before g (suc (suc i))) (h i))

  pub more_levels : (m : ℕ → ℕ) (i j : ℕ) → i ≤ j → merge_room g m i ≤ merge_room g m j
  unfolding merge_room
  more_levels m zero j h = omega arith
  more_levels m (suc i) zero h = absurd (omega arith)
  more_levels m (suc i) (suc j) h = stands (eqb i j) refl (more_levels m (suc i) j)
    where
      stands : (b : Bool) → eqb i j ≡ b → (suc i ≤ j → merge_room g m i + m i * room_before g (suc (suc i)) ≤ merge_room g m j) →
          merge_room g m i + m i * room_before g (suc (suc i)) ≤ merge_room g m j + m j * room_before g (suc (suc j))
      stands true e rest = rw (eqb-true i j e) (omega arith)
      stands false e rest =
          let n : ¬ (i ≡ j) = eqb-false i j e in
          omega (arith, rest (omega arith))

  -- Two lots of merges.
  pub both_lots : (m n : ℕ → ℕ) (i : ℕ) → merge_room g (λ j. m j + n j) i ≡ merge_room g m i + merge_room g n i
  unfolding merge_room
  both_lots m n zero = refl
  both_lots m n (suc i) = omega (arith, both_lots m n i, add-mul (m i) (n i) (room_before g (suc (suc i))))

  -- Merges by the allowance are what it allows.
  pub allowed_room : (n i : ℕ) → merge_room g (λ j. n / capacity g j) i ≡ allowed_to g n i
  unfolding merge_room allowed_to
  allowed_room n zero = refl
  allowed_room n (suc i) = rw (allowed_room n i) refl

  -- A cascade is one merge into each level down to its deepest.
  pub cascade_once : (deepest i : ℕ) → i ≤ deepest → cascade_room g i ≤ merge_room g (λ j. once (suc j) deepest) i
  unfolding merge_room cascade_room
  cascade_once deepest zero h = omega arith
  cascade_once deepest (suc i) h = rw (once_some (suc i) deepest h) (omega (arith, cascade_once deepest i (omega arith)))

-- What requests write, one after another.
unfoldable pub reported : List Outcome → ℕ
reported [] = 0
reported (o ∷ os) = length o.written + reported os

pub reported_writes : (os : List Outcome) → length (writes os) ≡ reported os
unfolding writes concat reported
reported_writes [] = refl
reported_writes (o ∷ os) = length-append o.written (writes os) ∙ ap (λ (n : ℕ). length o.written + n) (reported_writes os)
