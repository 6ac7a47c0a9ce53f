-- `count_in_page` counts the index entries among a page's slots, from what a slot's kind says. Assumes nothing.
use native.Mathlib.Omega.{arith}
use mathlib.Core.Path.{ap, ◌∙◌}
use Rattle.slot.specs.declared.Slot.{Slot}
use Rattle.slot.specs.Slot.{slot_at}
use Rattle.rules.specs.Level.{fence_kind}
use Rattle.entries.specs.Run.{slot_inside}
use Rattle.edit.specs.Counts.{slots_begin, slots_go_on, page_counted, page_few}
use Rattle.edit.proofs.count_in_page.Goals as goal

pub loop-slot-init : goal.loop-slot-init
loop-slot-init c = slots_begin _ _

pub read_slot-read-requires : goal.read_slot-read-requires
read_slot-read-requires c =
    let pre = c.requires in
    let a = c.args in
    slot_inside a.words.now a.run _ a.page.0 _ _ _ pre.inside pre.page_lt_pages c.count_in-slot-end.ensures c.loop-slot-test.true c.place_in.ensures

pub overflow_add-count : goal.overflow_add-count
overflow_add-count c =
    let loop = c.loop-slot in
    omega (arith, loop.invariant.few, loop.invariant.inside, c.one_if-count.ensures.small)

pub loop-slot-preserved : goal.loop-slot-preserved
loop-slot-preserved c =
    let read = ap (λ (s : Slot). fence_kind s.kind) (c.read_slot-read.ensures ∙ ap (slot_at c.args.words.now) c.place_in.ensures) in
    slots_go_on _ _ _ _ _ _ c.loop-slot-test.true (c.is_fence.ensures ∙ read) c.one_if-count.ensures.exact c.loop-slot.invariant

pub returns : goal.returns
returns c =
    let a = c.args in
    let counted = c.count_in-slot-end.ensures in record {
      exact = page_counted a.words.now a.run a.page.0 _ _ _ counted c.loop-slot-test.false c.loop-slot.invariant;
      few = page_few a.words.now a.run a.page.0 _ _ _ counted c.loop-slot-test.false c.loop-slot.invariant _ c.requires.inside;
    }
