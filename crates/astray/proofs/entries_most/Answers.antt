-- `entries_most` tells how many entries a level may have. Assumes nothing.
use native.Mathlib.Omega.{arith}
use borrow.Author.Tests.{eq-eqb, ne_eqb}
use Rattle.astray.specs.Wrong.{most_of, some_most}
use Rattle.astray.proofs.entries_most.Goals as goal

pub overflow_sub-result : goal.overflow_sub-result
overflow_sub-result c = omega (arith, c.at_level-capacity.ensures, some_most _ _ _ c.args.store.now.lent _ c.requires)

pub returns-then-level-store : goal.returns-then-level-store
unfolding most_of
returns-then-level-store c = rw (eq-eqb _ _ c.if-level-store.true, most_of) c.at_level-capacity.ensures

pub returns-else-level-store : goal.returns-else-level-store
unfolding most_of
returns-else-level-store c = rw (ne_eqb _ _ c.if-level-store.false, most_of, c.at_level-capacity.ensures)
