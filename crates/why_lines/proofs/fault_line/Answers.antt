-- `fault_line` puts the number, and then the place. Assumes nothing.
use Rattle.printing.specs.Grown.{grown_then}
use Rattle.why_lines.specs.Fault.{fault_line}
use Rattle.why_lines.proofs.fault_line.Goals as goal

pub returns-clause-grown : goal.returns-clause-grown
unfolding fault_line
returns-clause-grown c = grown_then (grown_then (grown_then c.named.ensures.grown c.named-2.ensures.grown) c.named-3.ensures.grown) c.named-4.ensures.grown
