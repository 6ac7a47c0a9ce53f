-- `page_of` gives the page number of a tag. Assumes nothing.
use Rattle.slot.specs.Tag.{page_of}
use borrow.Author.Rules.{rules}
use Rattle.slot.proofs.page_of.Goals as goal

pub returns : goal.returns
unfolding page_of
returns c = search rules
