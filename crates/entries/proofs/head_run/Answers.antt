-- `head_run` gives the head's run, from the plan. Assumes nothing.
use Rattle.entries.specs.Levels.{head_run}
use Rattle.geometry.specs.Places.{plan_of}
use Rattle.entries.proofs.head_run.Goals as goal

pub returns : goal.returns
unfolding head_run plan_of
returns c = let s = c.args.store.now in rw s.lent.planned
