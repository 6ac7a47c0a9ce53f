-- `read_digits` reads digit by digit: the number so far and the bytes left tell the number. Assumes nothing.
use Rattle.lines.specs.Counting.{Counting}
use Rattle.lines.proofs.read_digits.Given as goal

abbrev pub invariant-loop-byte : goal.invariant-loop-byte
invariant-loop-byte l = Counting l.bytes l.byte-index l.n
