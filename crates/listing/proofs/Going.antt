-- How far a listing has come, as the loop of src/lib.rt carries it: what the levels ahead still give completes the rules' list.
-- Assumes nothing.
use Rattle.std.specs.Prelude.{ℕ, suc, ◌+◌, ◌*◌, ◌/◌, ◌≤◌, ◌<◌, ◌≡◌, true, false, List, [], length, set}
use Rattle.std.proofs.Common.{arith, ap, sym, ◌∙◌, length-set}
use Rattle.std.proofs.Math.Option.{none, some}
use Rattle.slot.specs.declared.Pair.{Pair}
use Rattle.slot.specs.Pair.{before, least}
use Rattle.rules.specs.Tree.{Entry, Tree, rank_of}
use Rattle.rules.specs.Listing.{held_between, Listed}
use Rattle.entries.specs.Ascending.{AllFrom, all_from_lower}
use Rattle.listing.specs.Merge.{least_of, past_all, entry_count, NextIs, next_is_least, all_from_past}
use Rattle.listing.proofs.Merge.{held_between_listed, held_between_passed, held_between_none, held_between_over}
use Rattle.listing.specs.Writing.{list_from, list_puts, list_full, list_done}
use Rattle.listing.specs.Going.{Going, wanted_by_kind}

module _ (second : Pair) (n : ℕ) (t : Tree) (slice : List ℕ) (whole : Listed) (so : Going second n t slice whole) where
  -- No pair comes, or no room is left.
  nothing_more : held_between least second t ≡ [] → n < length slice / 2 → record { pairs = n; mark = 0; words = slice } ≡ whole
  nothing_more e h = sym (list_done n slice h) ∙ ap (λ ps. list_from n ps slice) (sym e) ∙ so.reaches

  pub going_done : least_of t ≡ none → n < length slice / 2 → record { pairs = n; mark = 0; words = slice } ≡ whole
  going_done e h = nothing_more (held_between_none least second t e) h

  pub going_full : length slice / 2 ≤ n → record { pairs = n; mark = 1; words = slice } ≡ whole
  going_full h = sym (list_full n (held_between least second t) slice (omega (arith, so.fits))) ∙ so.reaches

  -- The pair that comes next is past the second, or put, or passed.
  module _ (f : Entry) (e : least_of t ≡ some f) where
    next : NextIs t f
    next = next_is_least 0 t f so.ascends e

    pub going_over : before second f.pair ≡ true → n < length slice / 2 → record { pairs = n; mark = 0; words = slice } ≡ whole
    going_over o h = nothing_more (held_between_over least second t f next o) h

    ascends_on : AllFrom 0 (past_all f.pair t)
    ascends_on = all_from_lower 0 (suc (rank_of f)) (past_all f.pair t) (omega arith) (all_from_past f.pair t next.from)

    pub going_puts : f.normal ≡ true → before second f.pair ≡ false → n < length slice / 2 →
        Going second (n + 1) (past_all f.pair t) (set (set slice (2 * n) f.pair.badge) (2 * n + 1) f.pair.floor.0) whole
    going_puts k o h = record {
      reaches = sym (list_puts n f.pair (held_between least second (past_all f.pair t)) slice h) ∙
          ap (λ ps. list_from n ps slice) (sym (held_between_listed least second t f next (wanted_by_kind second f true k o))) ∙ so.reaches;
      ascends = ascends_on;
      few = omega (arith, so.few, next.fewer);
      fits = simp length-set (omega arith);
    }

    pub going_passes : f.normal ≡ false → before second f.pair ≡ false → Going second n (past_all f.pair t) slice whole
    going_passes k o = record {
      reaches = ap (λ ps. list_from n ps slice) (sym (held_between_passed least second t f next (wanted_by_kind second f false k o))) ∙ so.reaches;
      ascends = ascends_on;
      few = omega (arith, so.few, next.fewer);
      fits = so.fits;
    }

    -- Each step leaves fewer entries ahead.
    pub going_falls : entry_count (past_all f.pair t) < entry_count t
    going_falls = next.fewer
