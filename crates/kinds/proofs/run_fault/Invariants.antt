-- `run_fault` tests a level entry by entry. The loop's invariant: the first wrong entry that comes from the spots on is that of the whole.
-- Assumes nothing.
use lib.ListN.{length}
use Rattle.entries.specs.Run.{entries_in}
use Rattle.entries.specs.Levels.{tree_in}
use Rattle.entries.specs.Spot.{upcoming, Standing, upcomings}
use Rattle.kinds.specs.Standing.{Stands}
use Rattle.kinds.proofs.run_fault.Given as goal

abbrev pub invariant-loop-top : goal.invariant-loop-top
invariant-loop-top l =
    Stands (upcoming l.words l.top l.spot) (upcomings l.words l.lower l.spots) (entries_in l.words l.top) (tree_in l.words l.lower) × Standing l.words l.top l.spot

abbrev pub decreases-loop-top : goal.decreases-loop-top
decreases-loop-top l = length (upcoming l.words l.top l.spot)
