-- `writing_told` puts the level, the slot and the page. Assumes nothing.
use Rattle.printing.specs.Grown.{grown_then}
use Rattle.why_lines.specs.Fault.{writing_text}
use Rattle.why_lines.proofs.writing_told.Goals as goal

pub returns-clause-grown : goal.returns-clause-grown
unfolding writing_text
returns-clause-grown c = grown_then (grown_then c.named.ensures.grown c.named-2.ensures.grown) c.named-3.ensures.grown
