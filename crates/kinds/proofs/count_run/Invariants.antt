-- `count_run` adds up the counts of a run's pages. The loop's invariant: the pages left complete the counts. Assumes nothing.
use Prim.Native.Nat.{◌-◌}
use Rattle.entries.specs.Run.{rest_from, entries_in}
use Rattle.kinds.specs.KindCounts.{Counted}
use Rattle.kinds.proofs.count_run.Given as goal

abbrev pub invariant-loop-page : goal.invariant-loop-page
invariant-loop-page l = Counted l.normal l.filters (rest_from l.words l.run l.page 0 (l.run.pages - l.page)) (entries_in l.words l.run)
