-- `read_slot` gives the slot whose words begin at a place, from what `kind_of` and `page_of` ensure. Assumes nothing.
use Rattle.slot.specs.Slot.{slot_at}
use Rattle.slot.proofs.read_slot.Goals as goal

pub returns : goal.returns
unfolding slot_at
returns c = rw (← c.page_of.ensures, ← c.kind_of.ensures)
