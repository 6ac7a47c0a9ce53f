-- `scan_start` gives a pass over no slots. Assumes nothing.
use mathlib.Core.Path.{refl}
use Rattle.page.specs.Scan.{started}
use Rattle.page.proofs.scan_start.Goals as goal

pub returns : goal.returns
unfolding started
returns c = refl
