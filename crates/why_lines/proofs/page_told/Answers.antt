-- `page_told` puts the page, the level and the slot. Assumes nothing.
use Rattle.printing.specs.Grown.{grown_then}
use Rattle.why_lines.specs.Fault.{page_text}
use Rattle.why_lines.proofs.page_told.Goals as goal

pub returns-clause-grown : goal.returns-clause-grown
unfolding page_text
returns-clause-grown c = grown_then (grown_then c.named.ensures.grown c.named-2.ensures.grown) c.named-3.ensures.grown
