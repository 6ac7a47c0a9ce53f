-- `is_first_right` tests a slot for a fence not above a pair. Assumes nothing.
use Rattle.form.specs.Passes.{fence_up_to}
use Rattle.walk.proofs.is_first_right.Goals as goal

pub returns : goal.returns
unfolding fence_up_to
returns c = rw (c.both.ensures, c.comes_before.ensures, c.is_fence.ensures, c.read_slot-slot.ensures)
