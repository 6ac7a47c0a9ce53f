-- `fence_back` gives the page of the first fence met stepping back. The loop's invariant: stepping back from here meets what stepping back from the start meets. Assumes nothing.
use mathlib.Core.Path.{◌≡◌}
use Prim.Native.Nat.{◌≤◌}
use Rattle.page.specs.Tell.{fence_back}
use Rattle.page.proofs.fence_back.Given as goal

abbrev pub invariant-loop-slot : goal.invariant-loop-slot
invariant-loop-slot l = (l.j ≤ l.initial.j) × (fence_back l.words l.place l.j ≡ fence_back l.words l.place l.initial.j)

abbrev pub decreases-loop-slot : goal.decreases-loop-slot
decreases-loop-slot l = l.j
