-- `verdict_line` puts held or not, and then the deciding level. Assumes nothing.
use Rattle.printing.specs.Grown.{grown_then}
use Rattle.why_lines.specs.Lines.{verdict_text}
use Rattle.why_lines.proofs.verdict_line.Goals as goal

pub returns-clause-grown : goal.returns-clause-grown
unfolding verdict_text
returns-clause-grown c = grown_then (grown_then c.named.ensures.grown c.named-2.ensures.grown) c.bytes.ensures
