-- `levels_fault` goes over the levels below the head. The loop's invariant: the levels from here on decide. Assumes nothing.
use Prim.Native.Nat.{◌-◌}
use mathlib.Core.Path.{◌≡◌}
use Rattle.laws.specs.Lists.{span}
use Rattle.geometry.specs.Geometry.{bottom}
use Rattle.rules.specs.Faults.{first_fault, writing_fault}
use Rattle.sound.proofs.levels_fault.Given as goal

abbrev pub invariant-loop-level : goal.invariant-loop-level
invariant-loop-level l =
    let g = l.store.geometry in
    let w = l.store.words.now in
    first_fault (span (writing_fault g w) l.level (g.levels - l.level)) ≡ first_fault (span (writing_fault g w) 1 (bottom g))
