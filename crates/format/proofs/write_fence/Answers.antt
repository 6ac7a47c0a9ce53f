-- `write_fence` stores the first fence's three words; its page is 0. Assumes nothing.
use Rattle.rules.specs.Level.{external}
use native.Mathlib.Omega.{arith}
use Rattle.format.proofs.write_fence.Goals as goal

pub write_slot-requires-clause-page_bound : goal.write_slot-requires-clause-page_bound
unfolding external
write_slot-requires-clause-page_bound c = rw c.first_fence.ensures (omega arith)
