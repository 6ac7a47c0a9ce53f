-- `next_entry` finds the first index entry from a position on. The invariant: it is the first from here on. Assumes nothing.
use mathlib.Core.Path.{◌≡◌}
use Rattle.written.specs.Row.{next_entry}
use Rattle.written.proofs.RowIn.next_entry.Given as goal

abbrev pub invariant-loop-n : goal.invariant-loop-n
invariant-loop-n l = next_entry l.self.words.now l.self.row l.from ≡ next_entry l.self.words.now l.self.row l.n
