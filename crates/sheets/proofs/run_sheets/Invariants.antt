-- `run_sheets` reads inside its bytes and ends: each sheet is behind the one before.
use Rattle.std.proofs.Common.{length, ◌-◌, ◌≤◌}
use Rattle.sheets.proofs.run_sheets.Given as goal

abbrev pub invariant-loop-at : goal.invariant-loop-at
invariant-loop-at g l = (l.at ≤ length l.sheets) × (l.number ≤ l.at)

abbrev pub decreases-loop-at : goal.decreases-loop-at
decreases-loop-at g l = length l.sheets - l.at
