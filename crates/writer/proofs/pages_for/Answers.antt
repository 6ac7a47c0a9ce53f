-- `pages_for` counts pages, one at least. Assumes nothing.
use Rattle.rules.specs.Level.{pages_for}
use native.Mathlib.Omega.{arith}
use Rattle.writer.proofs.pages_for.Goals as goal

pub returns : goal.returns
unfolding pages_for
returns c = omega arith
