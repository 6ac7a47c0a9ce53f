-- `head_scan` gives what a pass over the head tells of it, its mark and its slot by `head_told`. Assumes nothing.
use mathlib.Core.Path.{ap}
use Rattle.rules.specs.Sound.{head_slots}
use Rattle.form.specs.declared.HeadAt.{HeadAt}
use Rattle.form.specs.Passes.{head_at, head_tested, head_told}
use native.Mathlib.Omega.{arith}
use Rattle.form.proofs.head_scan.Goals as goal

pub returns : goal.returns
unfolding head_at head_tested head_slots
returns c =
    let a = c.args in
    let w = a.words.now in
    λ g e.
    head_told g w a.asked (omega (arith, c.requires.capacity, ap (λ (h : HeadAt). h.head) e))
    (rw (c.marked_slot.ensures, c.both-2.ensures, c.both-right.ensures, c.both.ensures, c.both-begun.ensures, c.both-least.ensures, c.is_least_fence.ensures, c.scan_head-scan.ensures, c.min-read.ensures, e))
