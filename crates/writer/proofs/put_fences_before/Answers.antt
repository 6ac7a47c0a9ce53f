-- `put_fences_before` puts the fences before an entry. The loop's invariant: the area comes to the same. Assumes nothing.
use Prim.Native.Nat.{◌-◌, ◌≤◌}
use mathlib.Core.Path.{◌≡◌, refl}
use lib.ListN.{length}
use Rattle.laws.specs.Tests.{told_no, told_past}
use Rattle.layout.specs.Stream.{fence_left}
use Rattle.writer.specs.Coming.{SameFinish, same_further, fence_fits}
use Rattle.writer.specs.Writing.{room_less}
use borrow.Author.Rules.{rules}
use native.Mathlib.Omega.{arith}
use Rattle.std.proofs.lemmas.Bool.{not_from_false, not_from_true}
use Rattle.writer.proofs.put_fences_before.Goals as goal

pub loop-source-init : goal.loop-source-init
loop-source-init c = ((λ e es p. refl), c.requires.fence_le_below, refl)

pub entry_next-requires : goal.entry_next-requires
entry_next-requires c = c.requires.source_inside.below_inside

pub overflow_add-at : goal.overflow_add-at
overflow_add-at c =
    let loop = c.loop-source in
    let asked = c.requires in
    omega (arith, loop.invariant.1, asked.room_for.enough, asked.room_for.few)

pub fence_of-requires : goal.fence_of-requires
fence_of-requires c =
    let asked = c.requires in
    let entry_next = c.entry_next in
    let if1 = c.loop-source-test in
    omega (arith, asked.source_inside.below_inside, fence_left _ _ _ _ (told_no _ _ entry_next.ensures (not_from_false _ if1.true)))

pub put_slot-requires : goal.put_slot-requires
put_slot-requires c =
    let entry_next = c.entry_next in
    let if1 = c.loop-source-test in
    let asked = c.requires in
    let loop = c.loop-source in
    let left = fence_left _ _ _ _ (told_no _ _ entry_next.ensures (not_from_false _ if1.true)) in record {
      room_for = room_less _ _ _ _ asked.room_for (omega (arith, left)) loop.invariant.2;
      page_bound = fence_fits _ _ _ _ c.fence_of.ensures left asked.source_inside.below_few;
    }

pub overflow_add-next : goal.overflow_add-next
overflow_add-next c =
    let loop = c.loop-source in
    let asked = c.requires in
    omega (arith, loop.invariant.1, asked.source_inside.below_few)

pub loop-source-smaller : goal.loop-source-smaller
loop-source-smaller c =
    let entry_next = c.entry_next in
    let if1 = c.loop-source-test in
    omega (arith, fence_left _ _ _ _ (told_no _ _ entry_next.ensures (not_from_false _ if1.true)))

pub loop-source-preserved : goal.loop-source-preserved
loop-source-preserved c =
    let entry_next = c.entry_next in
    let if1 = c.loop-source-test in
    let put-slot = c.put_slot in
    let loop = c.loop-source in
    let fence-of = c.fence_of in
    let waits = told_no _ _ entry_next.ensures (not_from_false _ if1.true) in (
      rw put-slot.ensures (same_further _ _ _ _ _ _ _ _ loop.invariant.0 waits _ fence-of.ensures),
      omega (arith, fence_left _ _ _ _ waits),
      omega (arith, loop.invariant.2),
    )

pub returns : goal.returns
returns c =
    let loop = c.loop-source in
    let entry_next = c.entry_next in record {
      told = loop.invariant.0;
      next = told_past _ _ entry_next.ensures (not_from_true _ c.loop-source-test.false);
      most = loop.invariant.1;
    }
