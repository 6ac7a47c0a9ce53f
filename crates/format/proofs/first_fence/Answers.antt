-- `first_fence` is the external fence with the least pair to page 0. Assumes nothing.
use borrow.Author.Rules.{rules}
use Rattle.rules.specs.Level.{external}
use Rattle.format.proofs.first_fence.Goals as goal

pub returns : goal.returns
unfolding external
returns c = rw c.least_pair-pair.ensures
