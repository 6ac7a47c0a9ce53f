-- `unused` tells whether words are all unused. The invariant: they are exactly if those so far and those from here on are. Assumes nothing.
use mathlib.Core.Path.{◌≡◌}
use mathlib.Core.Bool.{◌&&◌}
use Rattle.written.specs.Tested.{unused}
use Rattle.written.proofs.unused.Given as goal

abbrev pub invariant-loop-i : goal.invariant-loop-i
invariant-loop-i l = unused l.words l.from l.to ≡ (l.all && unused l.words l.i l.to)
