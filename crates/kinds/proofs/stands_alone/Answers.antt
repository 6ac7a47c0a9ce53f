-- `stands_alone` says yes of a run without filters over runs without entries, which stands right. Assumes nothing.
use Rattle.kinds.specs.Below.{alone_stands}
use Rattle.kinds.proofs.stands_alone.Goals as goal

pub returns-then-all_empty : goal.returns-then-all_empty
returns-then-all_empty c =
    let a = c.args in
    alone_stands a.words.now a.top a.lower c.count_run.result (c.all_empty.ensures c.if-all_empty.true) c.count_run.ensures.exact
