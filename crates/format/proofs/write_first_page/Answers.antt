-- `write_first_page` stores the first words of an empty level: its slot count, and above the bottom the fence. Assumes nothing.
use lib.ListN.{length, length-set}
use lib.Seq.{length-sets}
use mathlib.Core.Path.{ap, ◌∙◌}
use native.Mathlib.Numerals.{add-one}
use Rattle.laws.specs.Lists.{concat}
use Rattle.slot.specs.Slot.{words_of}
use Rattle.format.specs.Formatting.{page_front}
use native.Mathlib.Omega.{arith}
use borrow.Author.Rules.{rules}
use Rattle.format.proofs.write_first_page.Goals as goal

pub returns-then-bottom : goal.returns-then-bottom
unfolding page_front concat
returns-then-bottom c = rw c.if-bottom.true

pub returns-else-bottom : goal.returns-else-bottom
unfolding page_front concat words_of
returns-else-bottom c = rw (c.if-bottom.false, c.write_fence.ensures, add-one)
