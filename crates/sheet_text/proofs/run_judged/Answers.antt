-- `run_judged` lends words that hold zeros, as many as the geometry wants. Assumes nothing.
use Rattle.sheet_text.specs.Zeros.{store_fits, work_fits, store_zeros, work_zeros, zeros_long}
use native.Mathlib.Omega.{arith}
use borrow.Author.Rules.{rules}
use Rattle.sheet_text.proofs.run_judged.Goals as goal

pub plan_for-plan-requires : goal.plan_for-plan-requires
plan_for-plan-requires c = c.requires.ready.in_range_lem

pub make_calls-requires : goal.make_calls-requires
make_calls-requires c = record {
  ready = c.requires.ready;
  store_value = store_zeros c.args.heading.geometry c.plan_for-plan.result c.plan_for-plan.ensures.exact c.requires.ready.short _ c.zeros-store.ensures;
  work_value = work_zeros c.args.heading.geometry c.plan_for-plan.result c.plan_for-plan.ensures.exact c.requires.ready.short _ c.zeros-work.ensures;
  at_start = c.requires.at_start;
  text_room_in_bounds = c.requires.text_room_in_bounds;
}

pub returns : goal.returns
returns c = c.make_calls.ensures

pub slice_bounds-store-end : goal.slice_bounds-store-end
slice_bounds-store-end c =
    omega (arith, store_fits c.args.heading.geometry c.plan_for-plan.result c.plan_for-plan.ensures.exact c.requires.ready.short, zeros_long _ c.zeros-store.ensures)

pub slice_bounds-work-end : goal.slice_bounds-work-end
slice_bounds-work-end c =
    omega (arith, work_fits c.args.heading.geometry c.plan_for-plan.result c.plan_for-plan.ensures.exact c.requires.ready.short, zeros_long _ c.zeros-work.ensures)
