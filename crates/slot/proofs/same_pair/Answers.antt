-- `same_pair` tells whether two pairs have one rank: two pairs of words have one rank exactly if they are one pair. Assumes nothing.
use Rattle.std.specs.Prelude.{◌≡◌, refl, Bool, true, false, ◌&&◌, eqb}
use Rattle.std.proofs.Common.{◌∙◌, sym, eqb-true, eq-eqb, ne_eqb, ap}
use Rattle.std.proofs.lemmas.Bool.{eqb-false}
use Rattle.slot.specs.declared.Pair.{Pair}
use Rattle.slot.specs.Pair.{same, rank, Words, rank_same}
use native.Mathlib.Omega.{arith}
use Rattle.slot.proofs.same_pair.Goals as goal

by_fields : (a b : Pair) → Words a → Words b → (x y : Bool) → eqb a.badge b.badge ≡ x → eqb a.floor.0 b.floor.0 ≡ y → (x && y) ≡ same a b
unfolding same rank
by_fields a b fa fb true true h k = sym (eq-eqb (rank a) (rank b) (omega (arith, eqb-true _ _ h, eqb-true _ _ k)))
by_fields a b fa fb true false h k = sym (ne_eqb (rank a) (rank b) (λ e. eqb-false _ _ k (ap (λ (p : Pair). p.floor.0) (rank_same fa fb e))))
by_fields a b fa fb false y h k = sym (ne_eqb (rank a) (rank b) (λ e. eqb-false _ _ h (ap (λ (p : Pair). p.badge) (rank_same fa fb e))))

pub returns : goal.returns
returns c =
    let a = c.args.a in
    let b = c.args.b in
    c.eq.ensures ∙
    by_fields a b (record { badge_fits = omega arith; floor_fits = omega arith }) (record { badge_fits = omega arith; floor_fits = omega arith })
    (eqb a.badge b.badge) (eqb a.floor.0 b.floor.0) refl refl
