-- `judge_requests` goes group by group: a fault of those left is one of all. Assumes nothing.
use Rattle.std.proofs.Common.{◌-◌, length}
use Rattle.reading.specs.Judging.{Judging}
use Rattle.reading.proofs.judge_requests.Given as goal

abbrev pub invariant-loop-at : goal.invariant-loop-at
invariant-loop-at l = Judging l.input l.from l.at l.line

abbrev pub decreases-loop-at : goal.decreases-loop-at
decreases-loop-at l = length l.input - l.at
