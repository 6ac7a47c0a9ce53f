-- `list_runs` lists four runs. The loop's invariant: what comes from the spots on completes the rules' list (specs/Going.antt). Assumes nothing.
use Prim.Native.Nat.{◌/◌}
use mathlib.Core.Path.{◌≡◌}
use lib.ListN.{length}
use Rattle.slot.specs.Pair.{least}
use Rattle.rules.specs.Listing.{list as listing}
use Rattle.entries.specs.Spot.{upcomings, AllStanding}
use Rattle.listing.specs.Merge.{entry_count}
use Rattle.listing.specs.Going.{Going}
use Rattle.listing.proofs.list_runs.Given as goal

abbrev pub invariant-loop-pairs : goal.invariant-loop-pairs
invariant-loop-pairs l =
    Going l.second l.pairs (upcomings l.words l.runs l.spots) l.list (listing least l.second (upcomings l.words l.runs l.initial.spots) l.initial.list) × AllStanding l.words l.runs l.spots × (length l.list ≡ length l.initial.list) ×
    (l.room ≡ length l.initial.list / 2)

abbrev pub decreases-loop-pairs : goal.decreases-loop-pairs
decreases-loop-pairs l = entry_count (upcomings l.words l.runs l.spots)
