-- `is_least_fence` tests a slot for the least fence. Assumes nothing.
use Rattle.form.specs.Passes.{least_fence}
use Rattle.form.proofs.is_least_fence.Goals as goal

pub returns : goal.returns
unfolding least_fence
returns c = rw (c.both.ensures, c.same_pair.ensures, c.least_pair.ensures, c.is_fence.ensures, c.read_slot-slot.ensures)
