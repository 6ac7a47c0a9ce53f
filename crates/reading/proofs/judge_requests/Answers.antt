-- `judge_requests` goes group by group: a fault of those left is one of all. Assumes nothing.
use Rattle.std.proofs.Common.{arith}
use Rattle.reading.specs.Judging.{judge_ends}
use Rattle.reading.proofs.judge_requests.Goals as goal

pub returns : goal.returns
returns c = judge_ends c.args.input.now c.args.from c.loop-at.at c.loop-at.line c.loop-at.invariant (omega arith)
