-- `tag_of` makes the tag of a kind and a page number, which fits where the page number is below 2 ^ 30. Assumes nothing.
use Rattle.slot.specs.Tag.{tag_of, kind_small}
use native.Mathlib.Omega.{arith}
use Rattle.slot.proofs.tag_of.Goals as goal

pub overflow_add-result : goal.overflow_add-result
overflow_add-result c = omega (arith, kind_small c.args.kind, c.from.ensures)

pub returns : goal.returns
unfolding tag_of
returns c = rw (← c.from.ensures)
