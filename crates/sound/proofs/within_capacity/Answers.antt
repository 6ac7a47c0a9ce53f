-- `within_capacity` tests a level's number of entries: each way out by its test. Assumes nothing.
use borrow.Author.Tests.{eq-eqb, ne_eqb}
use Rattle.sound.specs.Levels.{capacity_holds}
use Rattle.sound.proofs.within_capacity.Goals as goal

pub returns-then-level-store : goal.returns-then-level-store
unfolding capacity_holds
returns-then-level-store c = rw (eq-eqb _ _ c.if-level-store.true, c.at_level-capacity.ensures)

pub returns-else-level-store : goal.returns-else-level-store
unfolding capacity_holds
returns-else-level-store c = rw (ne_eqb _ _ c.if-level-store.false, c.at_level-capacity.ensures)
