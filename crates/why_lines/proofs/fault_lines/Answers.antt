-- `fault_lines` puts the number with the place, and then the sentence. Assumes nothing.
use Rattle.printing.specs.Grown.{grown_then}
use Rattle.why_lines.specs.Fault.{fault_told}
use Rattle.why_lines.proofs.fault_lines.Goals as goal

pub returns-clause-grown : goal.returns-clause-grown
unfolding fault_told
returns-clause-grown c =
    let line = rw c.into.ensures at c.fault_line.ensures.grown in
    grown_then (grown_then (grown_then line c.bytes.ensures) c.damage_told.ensures.grown) c.bytes-2.ensures
