-- `word_at` adds up four bytes, each by its weight. Assumes nothing.
use Rattle.std.proofs.Common.{arith}
use Rattle.chip.specs.Bytes.{word_of, word_at}
use Rattle.chip.proofs.word_at.Goals as goal

pub returns : goal.returns
unfolding word_at word_of
returns c = omega (arith, c.from_le_bytes.ensures)
