-- `count_slots` counts the slots of a writing. The loop's invariant: `Along` at slot n (specs/Along.antt). Assumes nothing.
use Prim.Native.Nat.{◌-◌, ◌≤◌}
use lib.ListN.{length}
use Rattle.leaving.specs.Along.{Along}
use Rattle.leaving.specs.Writing.{writes}
use Rattle.leaving.proofs.WritingIn.count_slots.Given as goal

abbrev pub invariant-loop-coming : goal.invariant-loop-coming
invariant-loop-coming l = Along l.self.words.now l.self.writing l.total l.coming.spot l.coming.fence × (l.total ≤ length (writes l.self.words.now l.self.writing))

abbrev pub decreases-loop-coming : goal.decreases-loop-coming
decreases-loop-coming l = length (writes l.self.words.now l.self.writing) - l.total
