-- `put_fences` puts the fences that are left. The loop's invariant: the area comes to the same. Assumes nothing.
use Rattle.std.proofs.Common.{ℕ, ◌+◌, ◌≡◌, refl, sym, ap, ◌∙◌, arith}
use Rattle.writer.specs.Coming.{fence_put, all_put, fence_fits}
use Rattle.writer.specs.Writing.{room_less}
use Rattle.writer.proofs.put_fences.Goals as goal

pub loop-next-init : goal.loop-next-init
loop-next-init c = (refl, refl)

pub overflow_add-at : goal.overflow_add-at
overflow_add-at c = omega (arith, c.requires.room_for.enough, c.requires.room_for.few)

pub fence_of-requires : goal.fence_of-requires
fence_of-requires c = omega (arith, c.requires.source_inside.below_inside)

pub put_slot-requires : goal.put_slot-requires
put_slot-requires c =
    let asked = c.requires in
    record {
      room_for = room_less _ _ _ _ asked.room_for (omega arith) c.loop-next.invariant.1;
      page_bound = fence_fits _ _ _ _ c.fence_of.ensures (omega arith) asked.source_inside.below_few;
    }

pub loop-next-preserved : goal.loop-next-preserved
loop-next-preserved c =
    let loop = c.loop-next in
    (rw c.put_slot.ensures (fence_put _ _ _ _ _ _ (omega arith) c.fence_of.ensures ∙ loop.invariant.0), omega (arith, loop.invariant.1))

pub overflow_add-result : goal.overflow_add-result
overflow_add-result c = omega (arith, c.requires.room_for.enough, c.requires.room_for.few)

pub returns : goal.returns
returns c =
    let loop = c.loop-next in
    let all : loop.next ≡ c.args.source.below = omega arith in
    ap (λ (n : ℕ). (loop.work, c.args.at.own + n)) (sym all) ∙ all_put _ _ _ _ _ (omega arith) ∙ loop.invariant.0
