use Rattle.geometry.specs.Places.{plan_of}
use Rattle.geometry.specs.Lent.{lent}
use Rattle.merge.specs.Rebuilding.{merged_few, merges_told}
use native.Mathlib.Omega.{arith}
use borrow.Author.Rules.{rules}
use Rattle.merge.proofs.merge_down.Goals as goal

pub rebuild_above-rebuilt-requires : goal.rebuild_above-rebuilt-requires
rebuild_above-rebuilt-requires c =
    let a = c.args in
    let pre = c.requires in
    let l = pre.lent in record {
      lent = lent a.g (plan_of a.g) _ l.in_range_lem l.planned (omega (arith, l.exact));
      work_len = omega (arith, pre.work_len);
      level_lt_levels = omega arith;
      rebuildable = rw c.join_down-joined.ensures.words pre.mergeable.rebuilds;
    }

pub overflow_add-result : goal.overflow_add-result
overflow_add-result c =
    let a = c.args in
    let pre = c.requires in
    let join-down = c.join_down-joined in
    let rebuild-above = c.rebuild_above-rebuilt in
    let l = pre.lent in
    let few = (merges_told a.g a.store.now a.level join-down.ensures.words join-down.ensures.pages rebuild-above.ensures.words rebuild-above.ensures.pages).1 in
    omega (arith, few, merged_few a.g l.in_range_lem a.level a.store.now (omega (arith, l.in_range_lem.levels_most)) pre.mergeable)

pub returns : goal.returns
returns c =
    let a = c.args in
    let pre = c.requires in
    let join-down = c.join_down-joined in
    let rebuild-above = c.rebuild_above-rebuilt in
    let l = pre.lent in
    let m = merges_told a.g a.store.now a.level join-down.ensures.words join-down.ensures.pages rebuild-above.ensures.words rebuild-above.ensures.pages in record {
      words = m.0;
      pages = m.1;
      few = rw m.1 (merged_few a.g l.in_range_lem a.level a.store.now (omega (arith, l.in_range_lem.levels_most)) pre.mergeable);
    }
