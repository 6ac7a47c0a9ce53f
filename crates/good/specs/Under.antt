-- A tree under empty levels tells and counts what it does alone. Assumes nothing.
use Rattle.std.specs.Prelude.{ℕ, zero, suc, ◌<◌, ◌≡◌, refl, Bool, [], ◌∷◌, ◌++◌, length, drop, replicate}
use Rattle.std.proofs.Common.{arith, ap, ◌∙◌}
use Rattle.laws.specs.Lists.{all, concat}
use Rattle.slot.specs.declared.Pair.{Pair}
use Rattle.rules.specs.Tree.{Level, Tree, level}
use Rattle.rules.specs.Finding.{find, held}
use Rattle.rules.specs.Sound.{ascending, alternating, count_kind}
use Rattle.rules.specs.Good.{LevelFits, TreeFits}

module _ {A : Type 0} (f : Tree → A) (alone : (t : Tree) → f ([] ∷ t) ≡ f t) where
  under : (i : ℕ) (t : Tree) → f (replicate i [] ++ t) ≡ f t
  under zero t = refl
  under (suc i) t = alone (replicate i [] ++ t) ∙ under i t

pub held_under : (p : Pair) (i : ℕ) (t : Tree) → held p (replicate i [] ++ t) ≡ held p t
unfolding held find
held_under p = under (held p) (λ t. refl)

pub ascending_under : (i : ℕ) (t : Tree) → all ascending (replicate i [] ++ t) ≡ all ascending t
unfolding all ascending
ascending_under = under (all ascending) (λ t. refl)

pub alternating_under : (i : ℕ) (t : Tree) → alternating (replicate i [] ++ t) ≡ alternating t
unfolding alternating all
alternating_under = under alternating (λ t. refl)

pub count_under : (b : Bool) (i : ℕ) (t : Tree) → count_kind b (replicate i [] ++ t) ≡ count_kind b t
unfolding count_kind concat
count_under b = under (count_kind b) (λ t. refl)

pub fits_under : (i : ℕ) (t : Tree) → TreeFits t → TreeFits (replicate i [] ++ t)
unfolding TreeFits LevelFits
fits_under zero t a = a
fits_under (suc i) t a = (tt, fits_under i t a)

-- A tree whose levels above level i are empty, level by level.
pub empties_first : (i : ℕ) (t : Tree) → suc i < length t → ((j : ℕ) → j < i → level j t ≡ []) →
    t ≡ replicate i [] ++ level i t ∷ level (suc i) t ∷ drop (suc (suc i)) t
empties_first i [] h a = absurd (omega arith)
empties_first zero (es ∷ []) h a = absurd (omega arith)
empties_first zero (es ∷ fs ∷ t) h a = refl
empties_first (suc i) (es ∷ t) h a =
    ap (λ (l : Level). l ∷ t) (a 0 (omega arith)) ∙ ap (λ (u : Tree). [] ∷ u) (empties_first i t (omega arith) (λ j b. a (suc j) (omega arith)))
