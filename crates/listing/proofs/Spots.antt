-- What src/lib.rt reads at spots in four runs is the merge of the entries that come from there on. Assumes nothing.
use Rattle.std.specs.Prelude.{ℕ, ◌+◌, ◌*◌, ◌/◌, ◌<◌, ◌≡◌, Bool, true, false, List, length, set}
use Rattle.std.proofs.Common.{arith, ap, sym, ◌∙◌}
use Rattle.std.proofs.Math.Option.{some}
use Rattle.slot.specs.declared.Pair.{Pair}
use Rattle.slot.specs.Pair.{before, least}
use Rattle.rules.specs.Listing.{list}
use Rattle.rules.specs.Listing.{Listed as Wanted}
use Rattle.entries.specs.Four.{Runs}
use Rattle.entries.specs.Four.{Spots}
use Rattle.entries.specs.declared.Entry.{Entry}
use Rattle.entries.specs.Run.{entry}
use Rattle.entries.specs.Levels.{AllInside, tree_in}
use Rattle.entries.specs.Ascending.{levels_ascend, all_from_ascending}
use Rattle.entries.specs.Skip.{skip_all}
use Rattle.entries.specs.Spot.{upcomings}
use Rattle.std.specs.Prelude.{Option as Found, Some, None}
use Rattle.listing.specs.Merge.{least_of, past_all, entry_count}
use Rattle.listing.specs.Range.{Keeps}
use Rattle.listing.proofs.Range.{range_kept}
use Rattle.listing.specs.Going.{Going, going_begins}
use Rattle.listing.proofs.Going.{going_done, going_over, going_puts, going_passes, going_falls}
use Rattle.listing.specs.Spots.{few_in_four, found}

-- A listing begins at the spots of its first pair, and lists from the least pair on there what is listed of the whole.
module _ (w : List ℕ) (rs : Runs) (first second : Pair) (s : Spots) (slice : List ℕ) (at : upcomings w rs s ≡ skip_all first (tree_in w rs))
    (ascend : levels_ascend (tree_in w rs) ≡ true) where
  kept : Keeps first second (tree_in w rs) (upcomings w rs s)
  kept = rw at (range_kept first second (tree_in w rs) (all_from_ascending (tree_in w rs) ascend))

  pub spots_begin : (words : ℕ) → AllInside rs words → Going second 0 (upcomings w rs s) slice (list least second (upcomings w rs s) slice)
  spots_begin words inside = going_begins second (upcomings w rs s) slice kept.ascends (omega (arith, kept.fewer, few_in_four w rs words inside))

  pub range_told : list least second (upcomings w rs s) slice ≡ list first second (tree_in w rs) slice
  unfolding list
  range_told = rw kept.pairs

-- A listing at four spots, of which the least was found: done where there is none or it is past the second pair, else put or passed as the
-- spots move past its pair.
module _ (w : List ℕ) (rs : Runs) (second : Pair) (n : ℕ) (s : Spots) (slice : List ℕ) (whole : Wanted) (so : Going second n (upcomings w rs s) slice whole)
    (r : Found Entry) (is : found r ≡ least_of (upcomings w rs s)) where
  pub spots_done : r ≡ None → n < length slice / 2 → record { pairs = n; mark = 0; words = slice } ≡ whole
  spots_done x h = going_done second n (upcomings w rs s) slice whole so (sym is ∙ ap found x) h

  module _ (e : Entry) (x : r ≡ Some e) (b : Bool) (test : b ≡ before second e.pair) where
    least_is : least_of (upcomings w rs s) ≡ some (entry e)
    least_is = sym is ∙ ap found x

    pub spots_over : b ≡ true → n < length slice / 2 → record { pairs = n; mark = 0; words = slice } ≡ whole
    spots_over o h = going_over second n (upcomings w rs s) slice whole so (entry e) least_is (sym test ∙ o) h

    module _ (t : Spots) (moved : upcomings w rs t ≡ past_all e.pair (upcomings w rs s)) where
      pub spots_fall : entry_count (upcomings w rs t) < entry_count (upcomings w rs s)
      spots_fall = rw moved (going_falls second n (upcomings w rs s) slice whole so (entry e) least_is)

      pub spots_put : b ≡ false → e.normal ≡ true → n < length slice / 2 →
          Going second (n + 1) (upcomings w rs t) (set (set slice (2 * n) e.pair.badge) (2 * n + 1) e.pair.floor.0) whole
      spots_put o k h = rw moved (going_puts second n (upcomings w rs s) slice whole so (entry e) least_is k (sym test ∙ o) h)

      pub spots_pass : b ≡ false → e.normal ≡ false → Going second n (upcomings w rs t) slice whole
      spots_pass o k = rw moved (going_passes second n (upcomings w rs s) slice whole so (entry e) least_is k (sym test ∙ o))
