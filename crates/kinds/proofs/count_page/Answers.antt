-- `count_page` counts the kinds of a page's slots. The loop's invariant: what is left of the page completes the counts. Assumes nothing.
use Rattle.entries.specs.Run.{slot_inside}
use Rattle.entries.specs.Skip.{slot_read}
use Rattle.kinds.specs.KindCounts.{counted_none, counted_slot, page_counted}
use native.Mathlib.Omega.{arith}
use Rattle.kinds.proofs.count_page.Goals as goal

pub loop-slot-init : goal.loop-slot-init
loop-slot-init c = (counted_none _, omega arith, omega arith)

pub read_slot-read-requires : goal.read_slot-read-requires
read_slot-read-requires c =
    let a = c.args in
    let pre = c.requires in
    slot_inside a.words.now a.run _ a.page.0 _ _ _ pre.inside pre.page_lt_pages c.count_in-slot-end.ensures c.loop-slot-test.true c.place_in.ensures

pub overflow_add-normal : goal.overflow_add-normal
overflow_add-normal c = omega (arith, c.loop-slot.invariant, c.loop-slot-test.true, c.one_if-normal.ensures.small)

pub overflow_add-filters : goal.overflow_add-filters
overflow_add-filters c = omega (arith, c.loop-slot.invariant, c.loop-slot-test.true, c.one_if-filters.ensures.small)

pub loop-slot-preserved : goal.loop-slot-preserved
loop-slot-preserved c =
    let read-slot = c.read_slot-read in
    let IsPlace-in = c.place_in in
    let loop = c.loop-slot in
    let counted = c.count_in-slot-end in
    let a = c.args in
    let one-if = c.one_if-normal in
    let w = a.words.now in
    let read = slot_read w a.run a.page.0 loop.slot IsPlace-in.result _ IsPlace-in.ensures read-slot.ensures in (
      counted_slot w a.run a.page.0 loop.normal loop.filters _ _ loop.slot counted.ensures loop.invariant.0
          read-slot.result _ _ _ _ c.loop-slot-test.true read c.is_normal.ensures c.is_filter.ensures one-if.ensures.exact c.one_if-filters.ensures.exact,
      omega (arith, loop.invariant, one-if.ensures.small),
      omega (arith, loop.invariant, c.one_if-filters.ensures.small),
    )

pub returns : goal.returns
returns c =
    let a = c.args in
    page_counted a.words.now a.run a.page.0 c.loop-slot.normal c.loop-slot.filters _ _ c.loop-slot.slot c.count_in-slot-end.ensures
    c.loop-slot.invariant.0 c.loop-slot-test.false
