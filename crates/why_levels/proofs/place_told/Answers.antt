-- `place_told` puts the level, the page and the slot, one behind the other. Assumes nothing.
use Rattle.printing.specs.Grown.{grown_then}
use Rattle.why_levels.specs.Lines.{place_text}
use Rattle.why_levels.proofs.place_told.Goals as goal

pub returns-clause-grown : goal.returns-clause-grown
unfolding place_text
returns-clause-grown c = grown_then (grown_then c.named.ensures.grown c.named-2.ensures.grown) c.put_if_any.ensures.grown
