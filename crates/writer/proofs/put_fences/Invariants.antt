-- `put_fences` puts the fences that are left. The loop's invariant: the area comes to the same. Assumes nothing.
use Rattle.std.proofs.Common.{◌≡◌, [], length}
use Rattle.writer.specs.Coming.{finished}
use Rattle.writer.proofs.put_fences.Given as goal

abbrev pub invariant-loop-next : goal.invariant-loop-next
invariant-loop-next l =
    (finished l.store l.source l.work l.at.own l.next [] ≡ finished l.store l.source l.initial.work l.at.own l.at.fence []) × (length l.work ≡ length l.initial.work)
