-- `entry_astray` finds the first entry that does not rise or is one too many. The loop's invariant: `Rising` after some entries
-- (specs/Rising.antt). Assumes nothing.
use Prim.Native.Nat.{◌-◌}
use lib.ListN.{length}
use Rattle.entries.specs.Run.{entries_in}
use Rattle.astray.specs.Rising.{Rising}
use Rattle.astray.proofs.entry_astray.Given as goal

abbrev pub invariant-loop-run : goal.invariant-loop-run
invariant-loop-run l = Rising l.words l.run l.most l.passed l.spot l.last

abbrev pub decreases-loop-run : goal.decreases-loop-run
decreases-loop-run l = length (entries_in l.words l.run) - l.passed
