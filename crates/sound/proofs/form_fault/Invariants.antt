-- `form_fault` goes over a level's pages. The loop's invariant: the pages from here on decide. Assumes nothing.
use Prim.Native.Nat.{◌-◌}
use mathlib.Core.Path.{◌≡◌}
use Rattle.laws.specs.Lists.{span}
use Rattle.geometry.specs.Directory.{pages_of}
use Rattle.rules.specs.Faults.{first_fault, form_fault}
use Rattle.sound.specs.Levels.{page_tested}
use Rattle.sound.proofs.form_fault.Given as goal

abbrev pub invariant-loop-p : goal.invariant-loop-p
invariant-loop-p l =
    let g = l.store.geometry in
    let w = l.store.words.now in
    first_fault (span (page_tested g w l.level) l.p (pages_of g w l.level - l.p)) ≡ form_fault g w l.level
