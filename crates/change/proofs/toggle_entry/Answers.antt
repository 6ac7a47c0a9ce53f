-- `toggle_entry` takes the pair's own entry out of the head, or puts the entry in. Assumes nothing.
use Rattle.change.specs.Change.{toggled_behind}
use native.Mathlib.Omega.{arith}
use borrow.Author.Rules.{rules}
use Rattle.change.proofs.toggle_entry.Goals as goal

pub returns-then-own : goal.returns-then-own
unfolding toggled_behind
returns-then-own c = rw c.if-own.true c.remove_entry.ensures

pub returns-else-own : goal.returns-else-own
unfolding toggled_behind
returns-else-own c = rw c.if-own.false c.add_entry.ensures
