-- `stream_written` decides whether a row is the writing of its own entries, and counts them. The invariant: what `Here` says at the position. Assumes nothing.
use Rattle.written.specs.Position.{Here}
use Rattle.written.proofs.RowIn.stream_written.Given as goal

abbrev pub invariant-loop-n : goal.invariant-loop-n
invariant-loop-n l = Here l.self.words.now l.self.row l.n l.r l.p l.entries l.last
