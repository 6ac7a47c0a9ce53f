-- `count_page` counts the kinds of a page's slots. The loop's invariant: what is left of the page completes the counts. Assumes nothing.
use Prim.Native.Nat.{◌≤◌}
use Rattle.entries.specs.Skip.{page_from}
use Rattle.kinds.specs.KindCounts.{Counted}
use Rattle.kinds.proofs.count_page.Given as goal

abbrev pub invariant-loop-slot : goal.invariant-loop-slot
invariant-loop-slot l =
    Counted l.normal l.filters (page_from l.words l.run l.page.0 l.slot) (page_from l.words l.run l.page.0 0) × (l.normal ≤ l.slot) × (l.filters ≤ l.slot)
