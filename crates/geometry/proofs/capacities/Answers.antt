-- `capacities` gives cap(i) of each level; no product leaves 32 bits, since H ≤ 64 and k ≤ 8. Assumes nothing.
use Rattle.geometry.specs.Bounds.{capacities_told, capacity_zero, capacity_one, capacity_two, capacity_three}
use native.Mathlib.Nat.{mul-le-mul}
use Rattle.geometry.specs.Geometry.{capacities}
use native.Mathlib.Omega.{arith}
use borrow.Author.Rules.{rules}
use Rattle.laws.specs.Clauses.{two_clauses}
use Rattle.geometry.proofs.capacities.Goals as goal

pub overflow_mul-first : goal.overflow_mul-first
overflow_mul-first c =
    let fit = c.requires in
    omega (arith, mul-le-mul fit.head_most fit.ratio_most)

pub overflow_mul-second : goal.overflow_mul-second
overflow_mul-second c =
    let fit = c.requires in
    omega (arith, mul-le-mul (mul-le-mul fit.head_most fit.ratio_most) fit.ratio_most)

pub overflow_mul-third : goal.overflow_mul-third
overflow_mul-third c =
    let fit = c.requires in
    omega (arith, mul-le-mul (mul-le-mul (mul-le-mul fit.head_most fit.ratio_most) fit.ratio_most) fit.ratio_most)

pub returns : goal.returns
unfolding capacities
returns c =
    let g = c.args.g in
    two_clauses (λ v0 v1. record { exact = v0; small = v1 }) (capacities_told g c.requires
    (rw (capacity_zero g, capacity_one g, capacity_two g, capacity_three g, ← c.within.ensures, ← c.within-2.ensures)))
