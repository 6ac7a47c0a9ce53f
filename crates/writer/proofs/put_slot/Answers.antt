-- `put_slot` stores a slot's words and its page's count, from what `write_slot` ensures. Assumes nothing.
use lib.Seq.{length-sets}
use Rattle.writer.specs.Append.{slot_put}
use native.Mathlib.Omega.{arith}
use borrow.Author.Rules.{rules}
use Rattle.writer.proofs.put_slot.Goals as goal

pub write_slot-requires : goal.write_slot-requires
write_slot-requires c =
    let pre = c.requires in record {
      place_in_bounds = omega (arith, pre.room_for.enough);
      page_bound = pre.page_bound;
    }

pub bounds-work-page : goal.bounds-work-page
bounds-work-page c = rw c.write_slot.ensures (simp length-sets (omega (arith, c.requires.room_for.enough)))

pub returns : goal.returns
unfolding slot_put
returns c = rw c.write_slot.ensures
