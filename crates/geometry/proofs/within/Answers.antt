-- `within` gives a number of a level that exists, else 0: each way out by its test. Assumes nothing.
use borrow.Author.Tests.{lt-ltb, le-ltb}
use Rattle.geometry.specs.Geometry.{within}
use Rattle.geometry.proofs.within.Goals as goal

pub returns-then-level-g : goal.returns-then-level-g
unfolding within
returns-then-level-g c = rw (lt-ltb _ _ c.if-level-g.true)

pub returns-else-level-g : goal.returns-else-level-g
unfolding within
returns-else-level-g c = rw (le-ltb _ _ c.if-level-g.false)
