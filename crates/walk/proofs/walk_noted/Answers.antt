-- `walk_noted` makes the pass over the head, and then the walk after it. Assumes nothing.
use Rattle.form.specs.Passes.{head_fits}
use Rattle.walk.proofs.walk_noted.Goals as goal

pub head_scan-head-requires : goal.head_scan-head-requires
head_scan-head-requires c =
    let s = c.args.store.now in
    rw c.head_at.ensures (head_fits s.geometry s.plan s.words.now s.lent)

pub walk_past-requires : goal.walk_past-requires
walk_past-requires c = c.head_scan-head.ensures c.args.store.now.geometry c.head_at.ensures

pub returns-clause-reads : goal.returns-clause-reads
returns-clause-reads c = c.head_scan-head.ensures c.args.store.now.geometry c.head_at.ensures
