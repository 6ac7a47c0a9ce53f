-- `is_full` tells whether a level is above the bottom and holds its capacity or more. Assumes nothing.
use Prim.Native.Nat.{suc}
use mathlib.Core.Path.{◌≡◌, refl, ◌∙◌}
use borrow.Author.Tests.{lt-ltb}
use Rattle.geometry.specs.Geometry.{capacity}
use Rattle.geometry.specs.Places.{plan_of}
use Rattle.geometry.proofs.Lent.{capacities_at}
use Rattle.merge.specs.Filling.{full_told, run_at}
use Rattle.merge.specs.Runs.{run_inside}
use native.Mathlib.Omega.{arith}
use Rattle.merge.proofs.is_full.Goals as goal

pub count_entries-requires : goal.count_entries-requires
count_entries-requires c =
    let a = c.args in
    let pre = c.requires in
    let run : c.run_at.result ≡ run_at a.g a.store.now a.level = rw (c.new-stored.ensures.laid_out, c.new-stored.ensures.same) at c.run_at.ensures in
    rw run (run_inside a.g (plan_of a.g) a.store.now pre.lent pre.pages_within a.level pre.level_lt_levels)

pub returns : goal.returns
returns c =
    let a = c.args in
    let pre = c.requires in
    let run : c.run_at.result ≡ run_at a.g a.store.now a.level = rw (c.new-stored.ensures.laid_out, c.new-stored.ensures.same) at c.run_at.ensures in
    let most : c.at_level-capacity.result ≡ capacity a.g a.level =
    (rw c.new-stored.ensures.planned at c.at_level-capacity.ensures) ∙ capacities_at a.g (plan_of a.g) a.store.now pre.lent a.level pre.level_lt_levels in
    rw (lt-ltb (suc a.level) a.g.levels (omega (arith, c.if-g-level.false)))
    (full_told a.g a.store.now a.level _ _ most (c.count_entries.ensures ∙ rw run refl))
