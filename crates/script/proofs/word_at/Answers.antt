-- `word_at` puts four bytes together, the lowest first. Assumes nothing.
use Rattle.std.proofs.Common.{arith}
use Rattle.script.specs.Word.{word_there, word_past}
use Rattle.script.proofs.word_at.Goals as goal

pub returns-then-saturating_sub-lt4 : goal.returns-then-saturating_sub-lt4
returns-then-saturating_sub-lt4 c = word_past c.args.script.now c.args.at (omega arith)

pub returns : goal.returns
returns c = omega (arith, c.from_le_bytes.ensures, word_there c.args.script.now c.args.at (omega arith))
