-- `level_wrong` is the leftmost of what its callees find (specs/Wrong.antt). Assumes nothing.
use native.Mathlib.Omega.{arith}
use Rattle.leaving.specs.Along.{own_inside}
use Rattle.astray.specs.Places.{level_within}
use Rattle.astray.specs.Wrong.{wrong_inside, wrong_past}
use Rattle.astray.proofs.level_wrong.Goals as goal

pub overflow_mul-end : goal.overflow_mul-end
overflow_mul-end c =
    let pre = c.requires in
    omega (arith, (level_within _ _ _ c.args.store.now.lent pre.store_value _ pre.le_level.0 pre.le_level.1 _ c.level_writing-writing.ensures).few_pages)

pub leaves-slot-requires : goal.leaves-slot-requires
leaves-slot-requires c =
    let pre = c.requires in
    level_within _ _ _ c.args.store.now.lent pre.store_value _ pre.le_level.0 pre.le_level.1 _ c.level_writing-writing.ensures

pub entries_most-requires : goal.entries_most-requires
entries_most-requires c = c.requires.le_level.1

pub entry_astray-entry-requires : goal.entry_astray-entry-requires
entry_astray-entry-requires c =
    let pre = c.requires in
    let level-writing = c.level_writing-writing in
    own_inside _ _ (level_within _ _ _ c.args.store.now.lent pre.store_value _ pre.le_level.0 pre.le_level.1 _ level-writing.ensures)

pub returns-then-first-end : goal.returns-then-first-end
returns-then-first-end c =
    let pre = c.requires in
    let level-writing = c.level_writing-writing in
    let entries-most = c.entries_most in
    let leaves = c.leaves-slot in
    wrong_inside _ _ _ c.args.store.now.lent pre.store_value _ pre.le_level.0 pre.le_level.1 _ level-writing.ensures _ _ _ _ entries-most.ensures leaves.ensures
    c.entry_astray-entry.ensures c.min-first.ensures c.if-first-end.true

pub overflow_mul-result : goal.overflow_mul-result
overflow_mul-result c =
    let pre = c.requires in
    let level-writing = c.level_writing-writing in
    let within = level_within _ _ _ c.args.store.now.lent pre.store_value _ pre.le_level.0 pre.le_level.1 _ level-writing.ensures in
    omega (arith, within.few_pages, within.pages_most)

pub returns : goal.returns
returns c =
    let pre = c.requires in
    let level-writing = c.level_writing-writing in
    let entries-most = c.entries_most in
    let leaves = c.leaves-slot in
    let entry-astray = c.entry_astray-entry in
    wrong_past _ _ _ c.args.store.now.lent pre.store_value _ pre.le_level.0 pre.le_level.1 _ level-writing.ensures _ _ _ _ entries-most.ensures leaves.ensures
    entry-astray.ensures c.min-first.ensures c.if-first-end.false
