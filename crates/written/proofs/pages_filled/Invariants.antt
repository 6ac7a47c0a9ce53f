-- `pages_filled` tells whether pages are filled left to right. The invariant: the pages are full exactly if those from here on are. Assumes nothing.
use Prim.Native.Nat.{◌-◌}
use mathlib.Core.Path.{◌≡◌}
use Rattle.written.specs.Tested.{full_pages}
use Rattle.written.proofs.pages_filled.Given as goal

abbrev pub invariant-loop-p : goal.invariant-loop-p
invariant-loop-p l = full_pages l.words l.start 0 l.last ≡ full_pages l.words l.start l.p (l.last - l.p)
