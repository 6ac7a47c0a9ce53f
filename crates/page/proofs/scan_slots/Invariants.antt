-- `scan_slots` gives the pass over a run. The loop's invariant: the pass from here on over what is left is the pass over the whole. Assumes nothing.
use Rattle.std.specs.Prelude.{ℕ, ◌≡◌, Bool}
use Rattle.slot.specs.declared.Slot.{Slot}
use Rattle.rules.specs.Sound.{slots_from}
use Rattle.page.specs.declared.Scan.{Scan}
use Rattle.page.specs.Scan.{Within, scanned_from, started, scanned}
use Rattle.page.proofs.scan_slots.Given as goal

abbrev pub invariant-loop-j : goal.invariant-loop-j
invariant-loop-j g l =
    Within l.j l.scan × ((right : ℕ → ℕ → Slot → Bool) → ((d : Scan) (s : Slot) (b : Bool) → goal.F-post g l.right d s b → b ≡ right d.fences d.entries s) →
    scanned_from l.asked right l.slots.words.now l.slots.place l.slots.count l.j l.scan ≡ scanned l.asked right started (slots_from l.slots.words.now l.slots.place l.slots.count))
