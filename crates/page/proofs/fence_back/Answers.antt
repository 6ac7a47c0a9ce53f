-- `fence_back` gives the page of the first fence met stepping back. The loop's invariant: stepping back from here meets what stepping back from the start meets. Assumes nothing.
use mathlib.Core.Path.{◌∙◌, ◌≡◌}
use mathlib.Core.Bool.{true, false}
use Rattle.geometry.specs.Places.{words_in_slot}
use Rattle.slot.specs.Slot.{slot_at}
use Rattle.rules.specs.Level.{fence_kind}
use Prim.Native.Nat.{◌+◌, ◌*◌}
use Rattle.page.specs.Tell.{fence_back_here, fence_back_step, past_first}
use native.Mathlib.Omega.{arith}
use Rattle.page.proofs.fence_back.Goals as goal

pub overflow_sub-j : goal.overflow_sub-j
overflow_sub-j c =
    let a = c.args in
    let j = c.loop-slot.j in
    let first = c.requires.place_value in
    let f : fence_kind (slot_at a.words.now (a.place + words_in_slot * j)).kind ≡ false = cc in
    omega (arith, past_first a.words.now a.place j first f)

pub loop-slot-smaller : goal.loop-slot-smaller
loop-slot-smaller c =
    let a = c.args in
    let j = c.loop-slot.j in
    let first = c.requires.place_value in
    let f : fence_kind (slot_at a.words.now (a.place + words_in_slot * j)).kind ≡ false = cc in
    omega (arith, past_first a.words.now a.place j first f)

pub loop-slot-preserved : goal.loop-slot-preserved
loop-slot-preserved c =
    let a = c.args in
    let loop = c.loop-slot in
    let first = c.requires.place_value in
    let f : fence_kind (slot_at a.words.now (a.place + words_in_slot * loop.j)).kind ≡ false = cc in
    (omega arith, fence_back_step a.words.now a.place loop.j first f ∙ loop.invariant.1)

pub returns : goal.returns
returns c =
    let a = c.args in
    let j = c.loop-slot.j in
    let f : fence_kind (slot_at a.words.now (a.place + words_in_slot * j)).kind ≡ true = cc in
    cc (fence_back_here a.words.now a.place j f)
