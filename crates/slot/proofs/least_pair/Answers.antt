-- `least_pair` gives the least pair. Assumes nothing.
-- src/lib.rt:40:1
use Rattle.slot.specs.Pair.{least}
use borrow.Author.Rules.{rules}
use Rattle.slot.proofs.least_pair.Goals as goal

pub returns : goal.returns
unfolding least
returns c = search rules
