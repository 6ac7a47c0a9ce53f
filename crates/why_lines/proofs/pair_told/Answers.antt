-- `pair_told` puts the badge and then the floor. Assumes nothing.
use Rattle.printing.specs.Grown.{grown_then}
use Rattle.why_lines.specs.Lines.{pair_text}
use Rattle.why_lines.proofs.pair_told.Goals as goal

pub returns-clause-grown : goal.returns-clause-grown
unfolding pair_text
returns-clause-grown c = grown_then c.named.ensures.grown c.named-2.ensures.grown
