-- `count_entries` counts the index entries of a run, page by page. Assumes nothing.
use Rattle.edit.specs.Counts.{PagesCounted}
use Rattle.edit.proofs.count_entries.Given as goal

abbrev pub invariant-loop-page : goal.invariant-loop-page
invariant-loop-page l = PagesCounted l.words l.run l.page l.count
