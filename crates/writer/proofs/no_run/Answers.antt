-- `no_run` gives the run without entries. Assumes nothing.
use mathlib.Core.Path.{refl}
use Rattle.writer.specs.Source.{empty_run}
use Rattle.writer.proofs.no_run.Goals as goal

pub returns : goal.returns
unfolding empty_run
returns c = refl
