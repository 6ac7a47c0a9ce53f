-- `test_drop` refuses a pair not held and then a store with no live pairs. Assumes nothing.
use borrow.Author.Tests.{not-true, not-false}
use Rattle.call_put.specs.Tested.{drop_missing, drop_none, drop_some}
use Rattle.std.proofs.lemmas.Bool.{not_from_false, not_from_true}
use Rattle.call_put.proofs.test_drop.Goals as goal

pub returns-then-not-held : goal.returns-then-not-held
returns-then-not-held c =
    let a = c.args in
    drop_missing a.held a.live (not-true a.held (not_from_false _ c.if-not-held.true))

pub returns-then-live-eq0 : goal.returns-then-live-eq0
returns-then-live-eq0 c =
    let a = c.args in
    cc (drop_none a.held a.live (not-false a.held (not_from_true _ c.if-not-held.false)) c.if-live-eq0.true)

pub returns : goal.returns
returns c =
    let a = c.args in
    drop_some a.held a.live (not-false a.held (not_from_true _ c.if-not-held.false)) c.if-live-eq0.false
