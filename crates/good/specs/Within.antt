-- What a level may hold: fewer than cap(i) above the bottom, M in the bottom. Assumes nothing.
use Rattle.std.specs.Prelude.{ℕ, ◌<◌, ◌≡◌, Bool, true, false, length, ltb, leb, eqb}
use Rattle.std.proofs.Common.{arith, sym, ◌∙◌, eq-eqb, ne_eqb, le-leb, lt-ltb, ltb-true}
use Rattle.std.proofs.Math.Path.{refl}
use Rattle.geometry.specs.declared.Geometry.{Geometry}
use Rattle.geometry.specs.Geometry.{InRange, bottom, capacity, most}
use Rattle.geometry.specs.Bounds.{capacity_least}
use Rattle.rules.specs.Tree.{level}
use Rattle.rules.specs.Merging.{State}
use Rattle.rules.specs.Sound.{within_capacity}
use Rattle.rules.specs.Good.{Good}

module _ (g : Geometry) (i n : ℕ) where
  pub within_upper : i < bottom g → within_capacity g i n ≡ ltb n (capacity g i)
  unfolding within_capacity
  within_upper h = rw (ne_eqb i (bottom g) (λ q. omega (arith, h, q)), within_capacity) refl

  pub within_bottom : i ≡ bottom g → within_capacity g i n ≡ leb n (most g)
  unfolding within_capacity
  within_bottom e = rw (eq-eqb i (bottom g) e, within_capacity) refl

-- The head of a good state has fewer entries than its capacity.
pub head_few : (g : Geometry) → InRange g → (s : State) → Good g s → length (level 0 s.tree) < capacity g 0
head_few g fit s good =
    let n = length (level 0 s.tree) in
    ltb-true n (capacity g 0) (sym (within_upper g 0 n (omega (arith, fit.levels_least))) ∙ good.within 0 (omega (arith, fit.levels_least)))

-- An empty level is within.
pub empty_within : (g : Geometry) → InRange g → (i : ℕ) → within_capacity g i 0 ≡ true
unfolding within_capacity
empty_within g fit i = told (eqb i (bottom g))
  where
    told : (b : Bool) → elim b as (λ x. Bool) [ true ↦ leb 0 (most g) | false ↦ ltb 0 (capacity g i) ] ≡ true
    told true = le-leb 0 (most g) (omega arith)
    told false = lt-ltb 0 (capacity g i) (omega (arith, capacity_least g fit i))
