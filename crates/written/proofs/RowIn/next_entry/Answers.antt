-- `next_entry` finds the first index entry from a position on. The invariant: it is the first from here on. Assumes nothing.
use mathlib.Core.Path.{◌≡◌, sym, ◌∙◌}
use Rattle.written.specs.Position.{next_here, next_passes, next_none}
use native.Mathlib.Omega.{arith}
use Rattle.written.proofs.RowIn.next_entry.Goals as goal

pub returns-then-not-is_fence : goal.returns-then-not-is_fence
returns-then-not-is_fence c = sym (c.loop-n.invariant ∙ next_here _ _ _ c.loop-n-test.true (rw c.slot_of.ensures at (sym c.is_fence.ensures ∙ c.if-not-is_fence.true)))

pub loop-n-preserved : goal.loop-n-preserved
loop-n-preserved c = c.loop-n.invariant ∙ next_passes _ _ _ c.loop-n-test.true (rw c.slot_of.ensures at (sym c.is_fence.ensures ∙ c.if-not-is_fence.false))

pub returns : goal.returns
returns c =
    let here = c.loop-n in
    let end : here.n ≡ c.args.self.now.row.slots = omega (arith, here.auto.n-end, c.loop-n-test.false) in
    sym (here.invariant ∙ next_none _ _ _ c.loop-n-test.false ∙ end)
