-- The held pairs of a range are those up to its second pair of the levels from its first pair on. Assumes nothing.
use Rattle.std.specs.Prelude.{ℕ, zero, suc, ◌<◌, ◌≡◌, refl, Bool, true, false, ◌&&◌}
use Rattle.std.proofs.Math.Nat.{le_refl}
use Rattle.std.proofs.Common.{arith, ◌∙◌}
use Rattle.std.proofs.Math.Path.{ap, sym}
use Rattle.std.proofs.Math.Bool.{not}
use Rattle.std.proofs.Math.Option.{Option, none, some}
use Rattle.laws.specs.Tests.{and_false_right}
use Rattle.slot.specs.declared.Pair.{Pair}
use Rattle.slot.specs.Pair.{rank, before, least, least_first}
use Rattle.slot.specs.Order.{not_before_above, above_not_before}
use Rattle.rules.specs.Tree.{Entry, Tree, rank_of}
use Rattle.rules.specs.Finding.{held}
use Rattle.rules.specs.Listing.{pairs_of, held_between}
use Rattle.entries.specs.Ascending.{AllFrom, all_from_lower}
use Rattle.entries.specs.Skip.{skip_all}
use Rattle.listing.specs.Merge.{least_of, past_all, entry_count, NextIs, next_is_least, spent, all_from_past, wanted, passing_agree, pairs_of_from}
use Rattle.listing.proofs.Merge.{held_between_passed}
use Rattle.listing.specs.Range.{Keeps, skip_all_gone, skip_all_none}

module _ (first second : Pair) where
  -- Where no entry is before the first pair the range may as well begin at the least.
  keeps_all : (t : Tree) → AllFrom (rank first) t → Keeps first second t (skip_all first t)
  unfolding held_between
  keeps_all t a = rw (skip_all_none first t a) (record {
    pairs = passing_agree (rank first) (λ p. held p t && (not (before p first) && not (before second p))) (λ p. held p t && (not (before p least) && not (before second p)))
        (λ p h. ap (λ (b : Bool). held p t && (not b && not (before second p)))
        (above_not_before p first h ∙ sym (above_not_before p least (omega (arith, least_first))))) (pairs_of t) (pairs_of_from (rank first) t a);
    ascends = all_from_lower 0 (rank first) t (omega arith) a;
    fewer = le_refl _;
  })

  -- An entry before it is not listed.
  before_first : (f : Entry) → before f.pair first ≡ true → wanted first second f ≡ false
  unfolding wanted
  before_first f b = and_false_right f.normal _ (ap (λ (b : Bool). not b && not (before second f.pair)) b)

  keeps_by_size : (n : ℕ) (t : Tree) → entry_count t < n → AllFrom 0 t → Keeps first second t (skip_all first t)
  keeps_by_size zero t h a = absurd (omega arith)
  keeps_by_size (suc n) t h a = by_least (least_of t) refl (keeps_by_size n)
    where
      by_order : (f : Entry) → NextIs t f → (b : Bool) → before f.pair first ≡ b →
          (entry_count (past_all f.pair t) < n → AllFrom 0 (past_all f.pair t) → Keeps first second (past_all f.pair t) (skip_all first (past_all f.pair t))) →
          Keeps first second t (skip_all first t)
      by_order f m true b ih =
          let on = rw (skip_all_gone first f.pair t b) at
          (ih (omega (arith, h, m.fewer)) (all_from_lower 0 (suc (rank_of f)) (past_all f.pair t) (omega arith) (all_from_past f.pair t m.from))) in
          record { pairs = held_between_passed first second t f m (before_first f b) ∙ on.pairs; ascends = on.ascends; fewer = omega (arith, on.fewer, m.fewer) }
      by_order f m false b ih = keeps_all t (all_from_lower (rank first) (rank_of f) t (not_before_above f.pair first b) m.from)

      by_least : (l : Option Entry) → least_of t ≡ l → ((u : Tree) → entry_count u < n → AllFrom 0 u → Keeps first second u (skip_all first u)) → Keeps first second t (skip_all first t)
      by_least none e ih = keeps_all t ((spent t e).from (rank first))
      by_least (some f) e ih = by_order f (next_is_least 0 t f a e) (before f.pair first) refl (ih (past_all f.pair t))

  pub range_kept : (t : Tree) → AllFrom 0 t → Keeps first second t (skip_all first t)
  range_kept t a = keeps_by_size (suc (entry_count t)) t (omega arith) a
