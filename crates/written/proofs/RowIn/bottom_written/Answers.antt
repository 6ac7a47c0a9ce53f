-- `bottom_written` decides whether a row that has no fences is the writing of its own entries. The invariant: what `Bare` says at the position.
-- Assumes nothing.
use mathlib.Core.Path.{sym, ◌∙◌}
use Rattle.written.specs.Bottom.{bare_starts, bare_goes_on, bare_ends, bare_counted}
use Rattle.written.proofs.Kept.{kept_if, kept_as}
use Rattle.written.proofs.RowIn.bottom_written.Goals as goal

pub loop-n-init : goal.loop-n-init
loop-n-init c = bare_starts _ _ _

pub loop-n-preserved : goal.loop-n-preserved
loop-n-preserved c =
    let here = c.loop-n in
    rw (c.rises.ensures, c.is_index.ensures, c.slot_of-slot.ensures)
    (bare_goes_on _ _ c.requires here.n here.ok here.last here.invariant c.loop-n-test.true)

pub returns-clause-exact : goal.returns-clause-exact
returns-clause-exact c = rw c.then_some.ensures (kept_if _ _ ∙ sym (bare_ends _ _ c.requires _ _ _ c.loop-n.invariant c.loop-n-test.false))

pub returns-clause-counted : goal.returns-clause-counted
returns-clause-counted c = rw c.then_some.ensures (kept_as _ _ _ (bare_counted _ _ c.requires _ _ _ c.loop-n.invariant c.loop-n-test.false))
