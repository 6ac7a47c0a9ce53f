-- `tell_bottom` gives what the reached slot tells in the bottom: its own entry, or nothing. Assumes nothing.
use borrow.Author.Tests.{eq-eqb, ne_eqb}
use Rattle.walk.specs.Step.{bottom_step}
use Rattle.walk.proofs.tell_bottom.Goals as goal

pub returns-then-reach-eq0 : goal.returns-then-reach-eq0
unfolding bottom_step
returns-then-reach-eq0 c = λ part i p. rw (eq-eqb _ _ c.if-reach-eq0.true)

pub returns-in-Some : goal.returns-in-Some
unfolding bottom_step
returns-in-Some c = λ part i p. rw (ne_eqb _ _ c.if-reach-eq0.false, ← c.met_at.ensures, c.in-Some.is)

pub returns-in-None : goal.returns-in-None
unfolding bottom_step
returns-in-None c = λ part i p. rw (ne_eqb _ _ c.if-reach-eq0.false, ← c.met_at.ensures, c.in-None.is)
