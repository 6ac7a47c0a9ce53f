use mathlib.Core.Path.{◌≡◌}
use Rattle.std.specs.Prelude.{suc}
use Rattle.geometry.specs.Places.{plan_of}
use Rattle.merge.specs.Filling.{run_at}
use Rattle.merge.specs.Joined.{levels_joinable, levels_fillable, levels_told}
use native.Mathlib.Omega.{arith}
use Rattle.laws.specs.Clauses.{two_clauses}
use Rattle.merge.proofs.join_down.Goals as goal

pub fill_level-requires : goal.fill_level-requires
fill_level-requires c =
    let a = c.args in
    let pre = c.requires in
    let stored = c.new-stored.ensures in
    let upper = rw (stored.laid_out, stored.same) at c.run_at-upper.ensures in
    let lower = rw (stored.laid_out, stored.same) at c.run_at-lower.ensures in
    record {
      lent = pre.lent;
      work_len = pre.work_len;
      le_level = (omega arith, omega arith);
      joinable = levels_joinable a.g a.store.now a.level upper lower (plan_of a.g) pre.lent pre.level_bound pre.mergeable;
      fillable = levels_fillable a.g a.store.now a.level upper lower pre.mergeable;
    }

pub returns : goal.returns
returns c =
    let a = c.args in
    let stored = c.new-stored.ensures in
    let upper = rw (stored.laid_out, stored.same) at c.run_at-upper.ensures in
    let lower = rw (stored.laid_out, stored.same) at c.run_at-lower.ensures in
    two_clauses (λ v0 v1. record { words = v0; pages = v1 }) (levels_told a.g a.store.now a.level upper lower c.fill_level.ensures.words c.fill_level.ensures.pages)
