-- `count_in_page` counts the index entries among a page's slots, from what a slot's kind says. Assumes nothing.
use Rattle.slot.specs.Slot.{slot_at}
use Rattle.entries.specs.Run.{place_in}
use Rattle.edit.specs.Counts.{SlotsCounted}
use Rattle.edit.proofs.count_in_page.Given as goal

abbrev pub invariant-loop-slot : goal.invariant-loop-slot
invariant-loop-slot l = SlotsCounted (λ j. slot_at l.words (place_in l.run l.page.0 j)) l.slot-end l.slot l.count
