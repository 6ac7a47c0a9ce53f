-- `is_digit` tells whether a byte is a digit: each way out by its test. Assumes nothing.
use Rattle.std.proofs.Common.{le-leb}
use Rattle.std.proofs.lemmas.Bool.{lt-leb}
use Rattle.lines.specs.Number.{is_digit}
use Rattle.lines.proofs.is_digit.Goals as goal

pub returns-then-byte-ge48 : goal.returns-then-byte-ge48
unfolding is_digit
returns-then-byte-ge48 c = rw (le-leb _ _ c.if-byte-ge48.true)

pub returns-else-byte-ge48 : goal.returns-else-byte-ge48
unfolding is_digit
returns-else-byte-ge48 c = rw (lt-leb _ _ c.if-byte-ge48.false)
