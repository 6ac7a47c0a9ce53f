-- `merge` and `settle` call each other. Assumes nothing.
use Rattle.std.proofs.Common.{◌+◌, ◌-◌, ◌*◌, add-one, sym, ◌∙◌, arith}
use Rattle.geometry.specs.Places.{plan_of}
use Rattle.geometry.specs.Lent.{lent}
use Rattle.merge.specs.Settling.{settle_within, full_above, full_mergeable, full_settled, stays_settled, merge_settled}
use Rattle.merge.proofs.+merge_settle.Goals as goal

pub merge-settle-rest-requires : goal.merge-settle-rest-requires
merge-settle-rest-requires t c =
    let a = c.args in
    let pre = c.requires in
    let l = pre.lent in (
      omega (arith, c.decreases, pre.level_bound),
      (
        lent a.g (plan_of a.g) _ l.in_range_lem l.planned (omega (arith, l.exact)),
        (omega (arith, pre.work_len), (omega (arith, pre.level_bound), rw (c.merge_down-pages.ensures.words, add-one a.level) pre.mergeable.1)),
      ),
    )

pub merge-returns : goal.merge-returns
merge-returns t c =
    let a = c.args in
    let down = c.merge_down-pages.ensures in
    let rest = c.settle-rest.ensures in record {
      told = merge_settled a.g a.level a.store.now down.words down.pages rest.told;
      few = omega (arith, down.few, rest.few, c.requires.level_bound);
    }

pub settle-is_full-requires : goal.settle-is_full-requires
settle-is_full-requires t c =
    let a = c.args in
    let pre = c.requires in record {
      lent = pre.lent;
      pages_within = settle_within a.g _ a.level a.store.now pre.settleable;
      level_lt_levels = pre.level_lt_levels;
    }

pub settle-merge-requires : goal.settle-merge-requires
settle-merge-requires t c =
    let a = c.args in
    let pre = c.requires in
    let full = sym c.is_full.ensures ∙ c.if-is_full.true in (
      omega (arith, c.decreases, pre.level_lt_levels),
      (
        pre.lent,
        (
          pre.work_len,
          (full_above a.g a.level a.store.now full, full_mergeable a.g a.level a.store.now full pre.settleable),
        ),
      ),
    )

pub settle-returns-then-is_full : goal.settle-returns-then-is_full
settle-returns-then-is_full t c =
    let a = c.args in
    let full = sym c.is_full.ensures ∙ c.if-is_full.true in record {
      told = c.merge.ensures.told ∙ full_settled a.g a.level a.store.now full;
      few = c.merge.ensures.few;
    }

pub settle-returns : goal.settle-returns
settle-returns t c =
    let a = c.args in record {
      told = stays_settled a.g a.level a.store.now c.requires.level_lt_levels (sym c.is_full.ensures ∙ c.if-is_full.false);
      few = omega arith;
    }
