-- `bottom_written` decides whether a row that has no fences is the writing of its own entries. The invariant: what `Bare` says at the position.
-- Assumes nothing.
use Rattle.written.specs.Bottom.{Bare}
use Rattle.written.proofs.RowIn.bottom_written.Given as goal

abbrev pub invariant-loop-n : goal.invariant-loop-n
invariant-loop-n l = Bare l.self.words.now l.self.row l.n l.ok l.last
