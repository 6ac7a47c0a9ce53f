-- `room_of` gives Pg from the numbers handed to it: each way out by its tests. Assumes nothing.
use borrow.Author.Tests.{le-leb, lt-leb, eq-eqb, ne_eqb}
use Rattle.geometry.specs.Geometry.{room_of}
use borrow.Author.Rules.{rules}
use Rattle.geometry.proofs.room_of.Goals as goal

pub returns-then-g-level : goal.returns-then-g-level
unfolding room_of
returns-then-g-level c = rw (le-leb _ _ c.if-g-level.true)

pub returns-then-g-level-2 : goal.returns-then-g-level-2
unfolding room_of
returns-then-g-level-2 c = rw (lt-leb _ _ c.if-g-level.false, eq-eqb _ _ c.if-g-level-2.true)

pub returns : goal.returns
unfolding room_of
returns c = rw (lt-leb _ _ c.if-g-level.false, ne_eqb _ _ c.if-g-level-2.false)
