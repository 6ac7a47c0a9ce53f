-- `write_slot` stores a slot's three words at a place, from what `tag_of` ensures. Assumes nothing.
use native.Mathlib.Numerals.{add-one, add-two}
use Rattle.slot.specs.Slot.{words_of}
use Rattle.slot.proofs.write_slot.Goals as goal

pub returns : goal.returns
unfolding words_of
returns c = rw (← c.tag_of.ensures, add-one, add-two)
