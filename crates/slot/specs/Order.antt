-- The order of pairs as facts of their ranks, and back: what sums and bounds are done with. Assumes nothing.
use Rattle.std.specs.Prelude.{◌≤◌, ◌<◌, ◌≡◌, true, false}
use borrow.Author.Tests.{ltb-true, ltb-false, eqb-true, eqb-false, lt-ltb, le-ltb, eq-eqb, ne_eqb}
use Rattle.slot.specs.declared.Pair.{Pair}
use Rattle.slot.specs.Pair.{rank, before, same}

module _ (a b : Pair) where
  -- What a test tells of the ranks.
  pub before_below : before a b ≡ true → rank a < rank b
  unfolding before
  before_below e = ltb-true (rank a) (rank b) e

  pub not_before_above : before a b ≡ false → rank b ≤ rank a
  unfolding before
  not_before_above e = ltb-false (rank a) (rank b) e

  pub same_level : same a b ≡ true → rank a ≡ rank b
  unfolding same
  same_level e = eqb-true (rank a) (rank b) e

  pub not_same_apart : same a b ≡ false → rank a ≡ rank b → ⊥
  unfolding same
  not_same_apart e = eqb-false (rank a) (rank b) e

  -- What the ranks tell of a test.
  pub below_before : rank a < rank b → before a b ≡ true
  unfolding before
  below_before h = lt-ltb (rank a) (rank b) h

  pub above_not_before : rank b ≤ rank a → before a b ≡ false
  unfolding before
  above_not_before h = le-ltb (rank a) (rank b) h

  pub level_same : rank a ≡ rank b → same a b ≡ true
  unfolding same
  level_same h = eq-eqb (rank a) (rank b) h

  pub apart_not_same : (rank a ≡ rank b → ⊥) → same a b ≡ false
  unfolding same
  apart_not_same h = ne_eqb (rank a) (rank b) h
