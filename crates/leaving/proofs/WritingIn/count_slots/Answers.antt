-- `count_slots` counts the slots of a writing. The loop's invariant: `Along` at slot n (specs/Along.antt). Assumes nothing.
use native.Mathlib.Omega.{arith}
use mathlib.Core.Path.{sym, ◌∙◌}
use Rattle.leaving.specs.Along.{own_inside, writes_few, some_left, none_left, more_left, along_on}
use Rattle.leaving.proofs.WritingIn.count_slots.Goals as goal

pub loop-coming-init : goal.loop-coming-init
loop-coming-init c = (rw c.start-coming.ensures.none_passed c.start-coming.ensures.along, omega arith)

pub next_slot-requires-clause-in_bounds : goal.next_slot-requires-clause-in_bounds
next_slot-requires-clause-in_bounds c =
    let along = c.loop-coming.invariant.0 in
    some_left _ _ _ _ _ along (more_left _ _ _ _ _ along _ (own_inside _ _ c.args.self.now.within) (sym c.is_over.ensures ∙ c.loop-coming-test.true))

pub overflow_add-total : goal.overflow_add-total
overflow_add-total c =
    let within = c.args.self.now.within in
    let more = more_left _ _ _ _ _ c.loop-coming.invariant.0 _ (own_inside _ _ within) (sym c.is_over.ensures ∙ c.loop-coming-test.true) in
    omega (arith, more, writes_few _ _ within)

pub loop-coming-smaller : goal.loop-coming-smaller
loop-coming-smaller c =
    omega (arith, more_left _ _ _ _ _ c.loop-coming.invariant.0 _ (own_inside _ _ c.args.self.now.within) (sym c.is_over.ensures ∙ c.loop-coming-test.true))

pub loop-coming-preserved : goal.loop-coming-preserved
loop-coming-preserved c =
    let along = c.loop-coming.invariant.0 in
    let more = more_left _ _ _ _ _ along _ (own_inside _ _ c.args.self.now.within) (sym c.is_over.ensures ∙ c.loop-coming-test.true) in
    (along_on _ _ _ _ _ along _ _ _ c.next_slot.ensures, omega (arith, more))

pub returns : goal.returns
returns c =
    let loop = c.loop-coming in
    omega (arith, loop.invariant.1, none_left _ _ _ _ _ loop.invariant.0 (sym c.is_over.ensures ∙ c.loop-coming-test.false))
