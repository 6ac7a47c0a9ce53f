use Rattle.geometry.specs.Bounds.{room_small}
use Prim.Native.Nat.{◌-◌}
use lib.ListN.{length}
use mathlib.Core.Path.{◌≡◌, refl, ◌∙◌}
use Rattle.geometry.specs.Places.{plan_of}
use Rattle.geometry.specs.Lent.{lent}
use Rattle.merge.specs.Rebuilding.{Rebuilding, rebuilding_begins, next_fillable, rebuilding_goes_on, rebuilding_few, head_within, rebuilding_ends}
use borrow.Author.Rules.{rules}
use native.Mathlib.Omega.{arith}
use Rattle.laws.specs.Clauses.{two_clauses}
use Rattle.merge.proofs.rebuild_above.Goals as goal

pub loop-i-init : goal.loop-i-init
loop-i-init c =
    let a = c.args in
    (rebuilding_begins a.g a.store.now a.level c.requires.rebuildable, refl)

pub rebuild_level-pages-requires : goal.rebuild_level-pages-requires
rebuild_level-pages-requires c =
    let a = c.args in
    let pre = c.requires in
    let loop = c.loop-i in
    let so = loop.invariant.0 in
    let l = pre.lent in record {
      lent = lent a.g (plan_of a.g) loop.store l.in_range_lem l.planned (so.long ∙ l.exact);
      work_len = loop.invariant.1 ∙ pre.work_len;
      le_level = (omega arith, omega (arith, so.reaches, pre.level_lt_levels));
      fillable = next_fillable a.g a.store.now a.level loop.store loop.pages loop.i so (omega arith);
    }

pub overflow_add-pages : goal.overflow_add-pages
overflow_add-pages c =
    let a = c.args in
    let pre = c.requires in
    let loop = c.loop-i in
    let so = loop.invariant.0 in
    let l = pre.lent in
    let few = rebuilding_few a.g a.store.now a.level loop.store loop.pages loop.i so l.in_range_lem (omega (arith, pre.level_lt_levels, l.in_range_lem.levels_most)) pre.rebuildable in
    let next = next_fillable a.g a.store.now a.level loop.store loop.pages loop.i so (omega arith) in
    omega (arith, few, next.enough, c.rebuild_level-pages.ensures.pages, room_small a.g l.in_range_lem loop.i)

pub loop-i-smaller : goal.loop-i-smaller
loop-i-smaller c = omega arith

pub loop-i-preserved : goal.loop-i-preserved
loop-i-preserved c =
    let a = c.args in
    let loop = c.loop-i in
    let rebuild-level = c.rebuild_level-pages in
    let so = loop.invariant.0 in (
      rebuilding_goes_on a.g a.store.now a.level loop.store loop.pages loop.i so (omega arith) (omega arith) rebuild-level.ensures.words rebuild-level.ensures.pages,
      omega (arith, loop.invariant.1),
    )

pub plan_for-requires : goal.plan_for-requires
plan_for-requires c = c.requires.lent.in_range_lem

pub rebuild_head-requires : goal.rebuild_head-requires
rebuild_head-requires c =
    let a = c.args in
    let loop = c.loop-i in
    let so = loop.invariant.0 in
    let l = c.requires.lent in record {
      lent = lent a.g _ loop.store l.in_range_lem c.plan_for.ensures.exact (so.long ∙ l.exact);
      pages_within = head_within a.g a.store.now a.level loop.store loop.pages loop.i so (omega arith);
    }

pub returns : goal.returns
returns c =
    let a = c.args in
    let loop = c.loop-i in
    two_clauses (λ v0 v1. record { words = v0; pages = v1 }) (rebuilding_ends a.g a.store.now a.level loop.store loop.pages loop.i loop.invariant.0 (omega arith) c.rebuild_head.ensures)
