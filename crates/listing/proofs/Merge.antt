-- A merge of levels that ascend: the least pair among the levels' first entries comes next, the topmost level that has it decides whether it
-- is held, and every level that has it moves on. So the held pairs come out in order. Assumes nothing.
use Rattle.std.specs.Prelude.{suc, ◌≡◌, ◌&&◌}
use Rattle.std.proofs.Common.{arith, sym, ◌∙◌}
use Rattle.std.proofs.Math.Path.{ap, ap₂}
use Rattle.std.proofs.Math.Bool.{Bool, true, false, not}
use mathlib.Core.List.{List, [], ◌∷◌}
use Rattle.std.proofs.Math.Option.{none}
use Rattle.laws.specs.Lists.{passing}
use Rattle.laws.specs.Tests.{and_false_right}
use Rattle.slot.specs.declared.Pair.{Pair}
use Rattle.slot.specs.Pair.{before}
use Rattle.slot.specs.Order.{before_below, below_before}
use Rattle.rules.specs.Tree.{Entry, Tree, rank_of}
use Rattle.rules.specs.Finding.{held}
use Rattle.rules.specs.Listing.{pairs_of, held_between}
use Rattle.listing.specs.Merge.{NextIs, all_from_past, held_past, least_of, pairs_of_from, passing_agree, passing_none, past_all, spent, wanted}

module _ (first second : Pair) where
  -- The pair that comes next is listed if it is wanted, and then those of the levels that moved on.
  pub held_between_next : (t : Tree) (f : Entry) → NextIs t f →
      held_between first second t ≡
      elim (wanted first second f) [ true ↦ f.pair ∷ held_between first second (past_all f.pair t) | false ↦ held_between first second (past_all f.pair t) ]
  unfolding held_between wanted passing
  held_between_next t f m =
      let ends : Pair → Bool = λ p. not (before p first) && not (before second p) in
      let after : List Pair = pairs_of (past_all f.pair t) in
      ap (passing (λ p. held p t && ends p)) m.pairs ∙
      ap₂ (λ (b : Bool) (l : List Pair). elim (b && ends f.pair) [ true ↦ f.pair ∷ l | false ↦ l ]) m.decides
      (passing_agree (suc (rank_of f)) (λ p. held p t && ends p) (λ p. held p (past_all f.pair t) && ends p)
      (λ p h. ap (λ (b : Bool). b && ends p) (sym (held_past f.pair p t (λ e. omega arith)))) after
      (pairs_of_from (suc (rank_of f)) (past_all f.pair t) (all_from_past f.pair t m.from)))

  pub held_between_listed : (t : Tree) (f : Entry) → NextIs t f → wanted first second f ≡ true →
      held_between first second t ≡ f.pair ∷ held_between first second (past_all f.pair t)
  held_between_listed t f m e =
      held_between_next t f m ∙
      ap (λ (b : Bool). elim b [ true ↦ f.pair ∷ held_between first second (past_all f.pair t) | false ↦ held_between first second (past_all f.pair t) ]) e

  pub held_between_passed : (t : Tree) (f : Entry) → NextIs t f → wanted first second f ≡ false →
      held_between first second t ≡ held_between first second (past_all f.pair t)
  held_between_passed t f m e =
      held_between_next t f m ∙
      ap (λ (b : Bool). elim b [ true ↦ f.pair ∷ held_between first second (past_all f.pair t) | false ↦ held_between first second (past_all f.pair t) ]) e

  -- A spent tree has none, nor one whose least pair is past the second.
  pub held_between_none : (t : Tree) → least_of t ≡ none → held_between first second t ≡ []
  unfolding held_between passing
  held_between_none t e = ap (passing (λ p. held p t && (not (before p first) && not (before second p)))) (spent t e).pairs

  pub held_between_over : (t : Tree) (f : Entry) → NextIs t f → before second f.pair ≡ true → held_between first second t ≡ []
  unfolding held_between
  held_between_over t f m b = passing_none (rank_of f) _ (λ p h. past_second p (below_before second p (omega (arith, h, before_below second f.pair b)))) (pairs_of t) (pairs_of_from (rank_of f) t m.from)
    where
      past_second : (p : Pair) → before second p ≡ true → (held p t && (not (before p first) && not (before second p))) ≡ false
      past_second p e = and_false_right (held p t) _ (and_false_right (not (before p first)) _ (ap not e))
