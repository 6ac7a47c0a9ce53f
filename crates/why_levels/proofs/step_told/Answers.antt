-- `step_told` puts the entry and the page followed, and ends the line. Assumes nothing.
use Rattle.printing.specs.Grown.{grown_then}
use Rattle.why_levels.specs.Lines.{step_text}
use Rattle.why_levels.proofs.step_told.Goals as goal

pub returns-clause-grown : goal.returns-clause-grown
unfolding step_text
returns-clause-grown c = grown_then (grown_then c.put_entry.ensures.grown c.put_if_any.ensures.grown) c.bytes.ensures
