-- `walk_levels` walks the lower levels and notes a line for each. The loop's invariant: the walk and its notes from here are those from the
-- first page, which the level has. Assumes nothing.
use Prim.Native.Nat.{◌<◌}
use mathlib.Core.Path.{◌≡◌}
use Rattle.geometry.specs.Directory.{pages_of}
use Rattle.walk.specs.Noting.{noted_from}
use Rattle.walk.proofs.walk_levels.Given as goal

abbrev pub invariant-loop-level : goal.invariant-loop-level
invariant-loop-level l =
    let g = l.store.geometry in
    let w = l.store.words.now in
    (l.page.0 < pages_of g w l.level) × (noted_from g w l.asked l.trail l.level l.page.0 ≡ noted_from g w l.asked l.initial.trail 1 l.initial.page.0)
