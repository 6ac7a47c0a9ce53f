-- `run_at` gives the run of a level, or of the head. Assumes nothing.
use mathlib.Core.Path.{◌∙◌}
use Rattle.merge.specs.Filling.{run_at, level_at}
use native.Mathlib.Omega.{arith}
use Rattle.merge.proofs.run_at.Goals as goal

pub returns-then-level-eq0 : goal.returns-then-level-eq0
unfolding run_at
returns-then-level-eq0 c = rw c.if-level-eq0.true c.head_run.ensures

pub returns : goal.returns
returns c =
    let s = c.args.store.now in
    c.level_run.ensures ∙ level_at s.geometry s.words.now c.args.level (omega (arith, c.if-level-eq0.false))
