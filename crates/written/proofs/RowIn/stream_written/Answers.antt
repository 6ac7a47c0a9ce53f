-- `stream_written` decides whether a row is the writing of its own entries, and counts them. The invariant: what `Here` says at the position. Assumes nothing.
use mathlib.Core.Path.{sym, ◌∙◌}
use Rattle.written.specs.Position.{here_starts, here_refused, here_fence, here_falls, here_entry, here_ends, here_counted}
use Rattle.written.proofs.Kept.{kept_if, kept_as}
use Rattle.written.proofs.RowIn.stream_written.Goals as goal
use Rattle.written.proofs.RowIn.stream_written.Goals.{then-is_fence+else-not-is_wanted, else-is_fence+else-not-entry_fits-rises}

pub loop-n-init : goal.loop-n-init
loop-n-init c = here_starts _ _ _

pub returns-then-not-is_wanted-clause-exact : goal.returns-then-not-is_wanted-clause-exact
returns-then-not-is_wanted-clause-exact c =
    let found = c.slot_of-found.ensures in
    let fence = rw found at (sym c.is_fence.ensures ∙ c.if-is_fence.true) in
    let wrong = rw (found, c.entry_behind-r.ensures) at (sym c.is_wanted.ensures ∙ c.if-not-is_wanted.true) in
    sym (here_refused _ _ _ _ _ _ _ c.loop-n.invariant c.loop-n-test.true fence wrong)

pub returns-then-not-entry_fits-rises-clause-exact : goal.returns-then-not-entry_fits-rises-clause-exact
returns-then-not-entry_fits-rises-clause-exact c =
    let found = c.slot_of-found.ensures in
    let entry = rw found at (sym c.is_fence.ensures ∙ c.if-is_fence.false) in
    let wrong = rw (c.rises.ensures, c.entry_fits.ensures, found) at c.if-not-entry_fits-rises.true in
    sym (here_falls _ _ _ _ _ _ _ c.loop-n.invariant c.loop-n-test.true entry wrong)

pub loop-n-preserved : goal.loop-n-preserved
loop-n-preserved c =
    let found = c.slot_of-found.ensures in
    elim c.if-is_fence.branch [
      | then-is_fence+else-not-is_wanted w ↦
          let fence = rw found at (sym c.is_fence.ensures ∙ w.if-is_fence.true) in
          let next = w.entry_behind-r.ensures in
          let right = rw (found, next) at (sym w.is_wanted.ensures ∙ w.if-not-is_wanted.false) in
          rw (w.r-is, w.p-is, w.entries-is, w.last-is, w.passed-p.ensures, found) (here_fence _ _ _ _ _ _ _ c.loop-n.invariant c.loop-n-test.true fence right _ next)
      | else-is_fence+else-not-entry_fits-rises w ↦
          let entry = rw found at (sym c.is_fence.ensures ∙ w.if-is_fence.false) in
          let right = rw (w.rises.ensures, w.entry_fits.ensures, found) at w.if-not-entry_fits-rises.false in
          rw (w.r-is, w.p-is, w.entries-is, w.last-is, found) (here_entry _ _ _ _ _ _ _ c.loop-n.invariant c.loop-n-test.true entry right)
    ]

pub returns-clause-exact : goal.returns-clause-exact
returns-clause-exact c =
    rw c.then_some.ensures (kept_if _ _ ∙ sym (here_ends _ _ _ _ _ _ _ c.loop-n.invariant c.loop-n-test.false))

pub returns-clause-counted : goal.returns-clause-counted
returns-clause-counted c =
    rw c.then_some.ensures (kept_as _ c.loop-n.entries _ (λ t. here_counted _ _ _ _ _ _ _ c.loop-n.invariant c.loop-n-test.false))
