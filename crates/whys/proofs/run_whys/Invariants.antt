-- `run_whys` reads inside its bytes and ends: each input is behind the one before.
use Rattle.std.proofs.Common.{length, ◌-◌, ◌≤◌}
use Rattle.whys.proofs.run_whys.Given as goal

abbrev pub invariant-loop-at : goal.invariant-loop-at
invariant-loop-at g l = (l.at ≤ length l.inputs) × (l.number ≤ l.at)

abbrev pub decreases-loop-at : goal.decreases-loop-at
decreases-loop-at g l = length l.inputs - l.at
