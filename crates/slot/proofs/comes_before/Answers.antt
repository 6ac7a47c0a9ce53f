-- `comes_before` is the order of ranks. Assumes nothing.
use Rattle.slot.specs.Pair.{before}
use borrow.Author.Rules.{rules}
use Rattle.slot.proofs.comes_before.Goals as goal

pub returns : goal.returns
unfolding before
returns c = rw (c.rank_of.ensures, c.rank_of-2.ensures)
