-- `first_leaving` finds the first slot that does not stand. The loop's invariant: `Search` at slot n (specs/Search.antt). Assumes nothing.
use Prim.Native.Nat.{◌*◌}
use native.Mathlib.Omega.{arith}
use mathlib.Core.Path.{◌≡◌, sym, ◌∙◌}
use Rattle.leaving.specs.Along.{room_few, some_left}
use Rattle.leaving.specs.Search.{search_begins, search_ends, count_leaves, slot_leaves, slot_passes, unused_leaves, unused_passes}
use Rattle.leaving.proofs.WritingIn.first_leaving.Goals as goal
use Rattle.leaving.proofs.WritingIn.first_leaving.Goals.{then-n-total+else-not-slot_stands, else-n-total+else-not-slot_unused}

pub overflow_mul-end : goal.overflow_mul-end
overflow_mul-end c = omega (arith, room_few _ _ c.args.self.now.within)

pub loop-n-init : goal.loop-n-init
loop-n-init c = rw c.start-coming.ensures.none_passed (search_begins _ _ _ c.start-coming.ensures.along)

pub returns-then-not-count_stands : goal.returns-then-not-count_stands
returns-then-not-count_stands c =
    count_leaves _ _ _ _ _ c.loop-n.invariant c.loop-n-test.true _ c.requires (sym c.count_stands.ensures ∙ c.if-not-count_stands.true)

pub next_slot-next-requires : goal.next_slot-next-requires
next_slot-next-requires c =
    let along = c.loop-n.invariant.along (omega (arith, c.if-n-total.true, c.requires)) in record {
      standing = along.stands;
      in_bounds = some_left _ _ _ _ _ along (omega (arith, c.if-n-total.true, c.requires));
    }

pub returns-then-not-slot_stands : goal.returns-then-not-slot_stands
returns-then-not-slot_stands c =
    let count = sym c.count_stands.ensures ∙ c.if-not-count_stands.false in
    slot_leaves _ _ _ _ _ c.loop-n.invariant c.loop-n-test.true _ c.requires count c.if-n-total.true _ _ _ c.next_slot-next.ensures
    (sym c.slot_stands.ensures ∙ c.if-not-slot_stands.true)

pub returns-then-not-slot_unused : goal.returns-then-not-slot_unused
returns-then-not-slot_unused c =
    let count = sym c.count_stands.ensures ∙ c.if-not-count_stands.false in
    unused_leaves _ _ _ _ _ c.loop-n.invariant c.loop-n-test.true _ c.requires count c.if-n-total.false (sym c.slot_unused.ensures ∙ c.if-not-slot_unused.true)

pub loop-n-preserved : goal.loop-n-preserved
loop-n-preserved c =
    let count = sym c.count_stands.ensures ∙ c.if-not-count_stands.false in
    elim c.if-n-total.branch [
      | then-n-total+else-not-slot_stands w ↦
          rw w.coming-is (slot_passes _ _ _ _ _ c.loop-n.invariant c.loop-n-test.true _ c.requires count w.if-n-total.true _ _ _ w.next_slot-next.ensures
          (sym w.slot_stands.ensures ∙ w.if-not-slot_stands.false))
      | else-n-total+else-not-slot_unused w ↦
          rw w.coming-is (unused_passes _ _ _ _ _ c.loop-n.invariant c.loop-n-test.true _ c.requires count w.if-n-total.false
          (sym w.slot_unused.ensures ∙ w.if-not-slot_unused.false))
    ]

pub returns : goal.returns
returns c =
    let here = c.loop-n in
    let end : here.n ≡ c.args.self.now.writing.own.most * c.args.self.now.writing.room = omega (arith, here.auto.n-end, c.loop-n-test.false) in
    sym end ∙ search_ends _ _ _ _ _ here.invariant c.loop-n-test.false
