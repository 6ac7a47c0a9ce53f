-- `test_put` refuses a held pair and then a full store. Assumes nothing.
use Rattle.call_put.specs.Tested.{put_held, put_full, put_fits}
use Rattle.std.proofs.Common.{arith, rules}
use Rattle.call_put.proofs.test_put.Goals as goal

pub returns-then-held : goal.returns-then-held
returns-then-held c =
    let a = c.args in
    put_held a.held a.live a.most c.if-held.true

pub returns-then-most-live : goal.returns-then-most-live
returns-then-most-live c =
    let a = c.args in
    put_full a.held a.live a.most (search rules) (omega arith)

pub returns : goal.returns
returns c =
    let a = c.args in
    put_fits a.held a.live a.most c.if-held.false c.if-most-live.false
