-- `open_both` opens the store, and then tests the work area's length. Assumes nothing.
use Rattle.opening.specs.Opening.{both_wrong, both_open}
use Rattle.opening.proofs.open_both.Goals as goal

pub returns-then-work-store : goal.returns-then-work-store
returns-then-work-store c = both_wrong c.args.words.now c.args.work.now c.in_ok-store.store c.in_ok-store.ensures c.if-work-store.true

pub returns : goal.returns
returns c = both_open c.args.words.now c.args.work.now c.in_ok-store.store c.in_ok-store.ensures c.if-work-store.false
