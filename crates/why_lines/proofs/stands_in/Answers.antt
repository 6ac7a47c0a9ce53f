-- `stands_in` puts a level, and then the end of the sentence. Assumes nothing.
use Rattle.printing.specs.Grown.{grown_then}
use Rattle.why_lines.specs.Lines.{stands_text}
use Rattle.why_lines.proofs.stands_in.Goals as goal

pub returns-clause-grown : goal.returns-clause-grown
unfolding stands_text
returns-clause-grown c = grown_then c.named.ensures.grown c.bytes.ensures
