-- `put_fences_before` puts the fences before an entry. The loop's invariant: the area comes to the same. Assumes nothing.
use Prim.Native.Nat.{◌-◌, ◌≤◌}
use mathlib.Core.Path.{◌≡◌, refl}
use lib.ListN.{length}
use Rattle.laws.specs.Tests.{told_no, told_past}
use Rattle.layout.specs.Stream.{fence_left}
use Rattle.writer.specs.Coming.{SameFinish, same_further, fence_fits}
use Rattle.writer.specs.Writing.{room_less}
use borrow.Author.Rules.{rules}
use native.Mathlib.Omega.{arith}
use Rattle.std.proofs.lemmas.Bool.{not_from_false, not_from_true}
use Rattle.writer.proofs.put_fences_before.Given as goal

abbrev pub invariant-loop-source : goal.invariant-loop-source
invariant-loop-source l =
    SameFinish l.store l.source l.pair l.at.own l.initial.work l.at.fence l.work l.next × (l.next ≤ l.source.below) × (length l.work ≡ length l.initial.work)

abbrev pub decreases-loop-source : goal.decreases-loop-source
decreases-loop-source l = l.source.below - l.next
