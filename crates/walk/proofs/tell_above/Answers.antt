-- `tell_above` gives what the reached slot tells above the bottom: its own entry, or the fence met stepping back. Assumes nothing.
use Rattle.walk.specs.Step.{above_step}
use Rattle.walk.proofs.tell_above.Goals as goal

pub returns-in-Some : goal.returns-in-Some
unfolding above_step
returns-in-Some c = λ part i p. rw (← c.met_at.ensures, c.in-Some.is)

pub returns-in-None : goal.returns-in-None
unfolding above_step
returns-in-None c = λ part i p. rw (← c.met_at.ensures, c.in-None.is, c.fence_back.ensures)
