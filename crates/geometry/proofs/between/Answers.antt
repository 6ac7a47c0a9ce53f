-- `between` tells whether a number lies in a range: each way out by its test. Assumes nothing.
use borrow.Author.Tests.{le-leb, lt-leb}
use Rattle.geometry.specs.Geometry.{between}
use Rattle.geometry.proofs.between.Goals as goal

pub returns-then-least-n : goal.returns-then-least-n
unfolding between
returns-then-least-n c = rw (le-leb _ _ c.if-least-n.true)

pub returns-else-least-n : goal.returns-else-least-n
unfolding between
returns-else-least-n c = rw (lt-leb _ _ c.if-least-n.false)
