-- `kind_told` puts the place of the entry, and then what is wrong with it. Assumes nothing.
use Rattle.printing.specs.Grown.{grown_then}
use Rattle.why_lines.specs.Fault.{kind_text}
use Rattle.why_lines.proofs.kind_told.Goals as goal

pub returns-clause-grown : goal.returns-clause-grown
unfolding kind_text
returns-clause-grown c = grown_then (grown_then (grown_then c.named.ensures.grown c.named-2.ensures.grown) c.named-3.ensures.grown) c.bytes.ensures
