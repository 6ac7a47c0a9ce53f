-- `skip_in_page` skips a page's slots. The loop's invariant: from here on the page comes to the same. Assumes nothing.
use Rattle.std.proofs.Common.{arith, ap, sym, ◌∙◌}
use Rattle.laws.specs.Tests.{told_yes}
use Rattle.entries.specs.Run.{slot_inside}
use Rattle.entries.specs.Skip.{stops_at, slot_read, page_passed, page_stops, page_none}
use Rattle.entries.proofs.skip_in_page.Goals as goal

pub read_slot-requires : goal.read_slot-requires
read_slot-requires c =
    let pre = c.requires in
    let a = c.args in
    slot_inside a.words.now a.run _ a.page.0 _ _ _ pre.inside pre.page_lt_pages c.count_in-slot-end.ensures c.loop-slot-test.true c.place_in.ensures

pub returns-then-stops-clause-met : goal.returns-then-stops-clause-met
returns-then-stops-clause-met c =
    let a = c.args in
    let read = slot_read a.words.now a.run a.page.0 _ _ _ c.place_in.ensures c.read_slot.ensures in
    let stop = ap (stops_at a.pair) (sym read) ∙ told_yes _ _ c.stops.ensures c.if-stops.true in record {
      in_page = omega (arith, c.loop-slot-test.true, c.count_in-slot-end.ensures);
      moved = page_stops a.words.now a.run a.page.0 a.pair _ _ c.count_in-slot-end.ensures c.loop-slot-test.true stop ∙ c.loop-slot.invariant;
      stops = stop;
    }

pub loop-slot-preserved : goal.loop-slot-preserved
loop-slot-preserved c =
    let a = c.args in
    let read = slot_read a.words.now a.run a.page.0 _ _ _ c.place_in.ensures c.read_slot.ensures in
    page_passed a.words.now a.run a.page.0 a.pair _ _ c.count_in-slot-end.ensures c.loop-slot-test.true (ap (stops_at a.pair) (sym read) ∙ sym c.stops.ensures ∙ c.if-stops.false) ∙ c.loop-slot.invariant

pub returns-clause-none : goal.returns-clause-none
returns-clause-none c =
    let a = c.args in
    page_none a.words.now a.run a.page.0 a.pair _ _ c.count_in-slot-end.ensures _ c.loop-slot-test.false c.loop-slot.invariant
