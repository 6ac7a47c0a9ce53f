-- `count_wanted` counts the slots of a page, and tells an unused page. Assumes nothing.
use mathlib.Core.Path.{refl}
use borrow.Author.Tests.{le-leb, lt-leb}
use Rattle.leaving.specs.Stands.{count_wanted}
use Rattle.leaving.proofs.count_wanted.Goals as goal
use Rattle.leaving.proofs.count_wanted.Goals.{else-n-ge1-via-then-n-ge1+else-total-n, else-n-ge1-via-else-n-ge1}

pub returns-then-total-n : goal.returns-then-total-n
unfolding count_wanted
returns-then-total-n c = rw (le-leb _ _ c.if-n-ge1.true, le-leb _ _ c.if-total-n.true) refl

pub returns : goal.returns
unfolding count_wanted
returns c =
    elim c.else-n-ge1.branch [
      | else-n-ge1-via-then-n-ge1+else-total-n w ↦ rw (le-leb _ _ w.if-n-ge1.true, lt-leb _ _ w.if-total-n.false) c.min.ensures
      | else-n-ge1-via-else-n-ge1 w ↦ rw (lt-leb _ _ w.if-n-ge1.false) c.min.ensures
    ]
