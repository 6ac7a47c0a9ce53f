-- `live_after` is one more for a put, one less for a drop. Assumes nothing.
use Rattle.good.specs.Edit.{live_after}
use native.Mathlib.Omega.{arith}
use Rattle.change.proofs.live_after.Goals as goal

pub returns-then-normal : goal.returns-then-normal
unfolding live_after
returns-then-normal c = rw c.if-normal.true

pub returns-else-normal : goal.returns-else-normal
unfolding live_after
returns-else-normal c = rw c.if-normal.false
