-- `scan_slots` gives the pass over a run. The loop's invariant: the pass from here on over what is left is the pass over the whole. Assumes nothing.
use mathlib.Core.Path.{sym, ◌∙◌}
use Rattle.page.specs.Scan.{started_within, stepped_within, scan_begins, scan_step_told, scan_ends}
use native.Mathlib.Omega.{arith}
use Rattle.page.proofs.scan_slots.Goals as goal

pub loop-j-init : goal.loop-j-init
loop-j-init g c =
    let a = c.args in
    let s = a.slots.now in
    (rw c.scan_start-scan.ensures started_within, λ right tells. rw c.scan_start-scan.ensures (scan_begins a.asked right s.words.now s.place s.count))

pub loop-j-preserved : goal.loop-j-preserved
loop-j-preserved g c =
    let a = c.args in
    let s = a.slots.now in
    let l = c.loop-j in (
      rw c.scan_step-scan.ensures (stepped_within a.asked l.j l.scan c.read_slot-slot.result c.right.result l.invariant.0),
      λ right tells.
          (scan_step_told a.asked right s.words.now s.place s.count l.j l.scan c.loop-j-test.true l.invariant.0 (l.invariant.1 right tells) c.read_slot-slot.ensures
          (tells l.scan c.read_slot-slot.result c.right.result c.right.ensures) c.scan_step-scan.ensures).1,
    )

pub returns : goal.returns
returns g c =
    let a = c.args in
    let s = a.slots.now in
    let l = c.loop-j in
    λ right tells. sym (scan_ends a.asked right s.words.now s.place s.count l.j l.scan (omega (arith, c.loop-j-test.false))) ∙ l.invariant.1 right tells
