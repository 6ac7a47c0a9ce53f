-- `test_found` makes the tests of a put or of a drop with live pairs and their most. Assumes nothing.
use Rattle.geometry.proofs.Lent.{most_at}
use Rattle.call_put.specs.Tested.{tested_of}
use Rattle.call_put.proofs.test_found.Goals as goal

pub returns-then-normal : goal.returns-then-normal
unfolding tested_of
returns-then-normal c =
    let s = c.args.store.now in
    rw (c.test_put.ensures, c.at_level-most.ensures, c.if-normal.true, most_at s.geometry s.plan s.words.now s.lent)

pub returns : goal.returns
unfolding tested_of
returns c = rw (c.test_drop.ensures, c.if-normal.false)
