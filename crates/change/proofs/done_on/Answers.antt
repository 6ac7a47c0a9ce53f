-- `done_on` tells of the store as it stands, from what `entry_counts` ensures. Assumes nothing.
use Rattle.change.specs.Change.{done_on}
use borrow.Author.Rules.{rules}
use Rattle.change.proofs.done_on.Goals as goal

pub returns : goal.returns
unfolding done_on
returns c = rw c.entry_counts.ensures
