-- A formatted store's state is good, and holds nothing. Assumes nothing.
use Rattle.std.specs.Prelude.{ℕ, zero, suc, ◌≡◌, refl, Bool, true, false, [], ◌++◌, replicate}
use Rattle.std.proofs.Common.{arith, sym, ap, subst, ◌∙◌, append-nil}
use Rattle.std.proofs.lemmas.List.{length-replicate}
use Rattle.laws.specs.Lists.{all}
use Rattle.geometry.specs.declared.Geometry.{Geometry}
use Rattle.geometry.specs.Geometry.{InRange}
use Rattle.slot.specs.declared.Pair.{Pair}
use Rattle.rules.specs.Tree.{Tree, level}
use Rattle.rules.specs.Finding.{held}
use Rattle.rules.specs.Merging.{formatted}
use Rattle.rules.specs.Sound.{ascending, alternating, count_kind}
use Rattle.rules.specs.Good.{Good, TreeFits}
use Rattle.entries.specs.Counts.{count_no_levels}
use Rattle.good.specs.Live.{Counted, counted_right}
use Rattle.good.specs.Under.{held_under, ascending_under, alternating_under, count_under, fits_under}
use Rattle.good.specs.Within.{empty_within}

-- A tree of empty levels is the empty tree under them.
empties : (n : ℕ) → ◌≡◌ {A = Tree} (replicate n []) (replicate n [] ++ [])
empties n = sym (append-nil (replicate n []))

-- None of its levels has an entry.
empty_levels : (n i : ℕ) → level i (replicate n []) ≡ []
empty_levels zero i = refl
empty_levels (suc n) zero = refl
empty_levels (suc n) (suc i) = empty_levels n i

pub formatted_levels : (g : Geometry) (i : ℕ) → level i (formatted g).tree ≡ []
unfolding formatted
formatted_levels g i = empty_levels g.levels i

pub formatted_good : (g : Geometry) → InRange g → Good g (formatted g)
unfolding formatted all alternating Counted TreeFits
formatted_good g fit = record {
  levels = length-replicate g.levels [];
  ascends = ap (all ascending) (empties g.levels) ∙ ascending_under g.levels [];
  within = λ i h. rw (empty_levels g.levels i) (empty_within g fit i);
  alternates = ap alternating (empties g.levels) ∙ alternating_under g.levels [];
  counted = counted_right 0 (replicate g.levels []) (omega (arith, none true, none false));
  few = omega arith;
  fit = subst TreeFits (sym (empties g.levels)) (fits_under g.levels [] tt);
}
  where
    none : (b : Bool) → count_kind b (replicate g.levels []) ≡ 0
    none b = ap (count_kind b) (empties g.levels) ∙ count_under b g.levels [] ∙ count_no_levels b

pub formatted_holds : (g : Geometry) (p : Pair) → held p (formatted g).tree ≡ false
unfolding formatted held
formatted_holds g p = ap (held p) (empties g.levels) ∙ held_under p g.levels []
