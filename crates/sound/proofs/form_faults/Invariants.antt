-- `form_faults` goes over the levels below the head. The loop's invariant: the levels from here on decide. Assumes nothing.
use Prim.Native.Nat.{◌-◌}
use mathlib.Core.Path.{◌≡◌}
use Rattle.laws.specs.Lists.{span}
use Rattle.rules.specs.Faults.{first_fault, form_fault, form_faults}
use Rattle.sound.proofs.form_faults.Given as goal

abbrev pub invariant-loop-level : goal.invariant-loop-level
invariant-loop-level l =
    let g = l.store.geometry in
    let w = l.store.words.now in
    first_fault (span (form_fault g w) l.level (g.levels - l.level)) ≡ form_faults g w
