-- `pages_right` tests the page count of a level against its room. Assumes nothing.
use Rattle.std.proofs.Common.{lt-ltb, le-ltb}
use Rattle.geometry.proofs.Lent.{rooms_at}
use Rattle.rules.specs.Sound.{pages_right}
use Rattle.form.proofs.pages_right.Goals as goal

pub returns-then-level-store : goal.returns-then-level-store
unfolding pages_right
returns-then-level-store c =
    let s = c.args.store.now in
    rw (lt-ltb _ _ c.if-level-store.true, pages_right, c.both.ensures, c.at_level.ensures, ← rooms_at s.geometry s.plan s.words.now s.lent c.args.level c.requires)

pub returns-else-level-store : goal.returns-else-level-store
unfolding pages_right
returns-else-level-store c = rw (le-ltb _ _ c.if-level-store.false, pages_right)
