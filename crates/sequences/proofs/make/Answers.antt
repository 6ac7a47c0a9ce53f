-- `make` lends parts that are long enough for the plan: law `parts_fit`.
use Rattle.std.proofs.Common.{arith, ◌≡◌, true}
use Rattle.geometry.specs.Bounds.{in_range_lem}
use Rattle.geometry.specs.Geometry.{in_range}
use Rattle.sequences.specs.Fit.{parts_fit}
use Rattle.sequences.proofs.make.Goals as goal

pub plan_for-plan-requires : goal.plan_for-plan-requires
plan_for-plan-requires g c =
    let e : in_range c.geometry_at-g.result ≡ true = cc in
    in_range_lem _ e

pub sequence_of-s-requires : goal.sequence_of-s-requires
sequence_of-s-requires g c =
    let e : in_range c.geometry_at-g.result ≡ true = cc in
    in_range_lem _ e

pub run-requires-clause-fit : goal.run-requires-clause-fit
run-requires-clause-fit g c =
    let e : in_range c.geometry_at-g.result ≡ true = cc in
    let parts = parts_fit _ c.plan_for-plan.result c.sequence_of-s.result c.args.store.now c.args.work.now (in_range_lem _ e)
    c.plan_for-plan.ensures.exact c.sequence_of-s.ensures (omega arith) (omega arith) in
    parts.0

pub run-requires-clause-work_fit : goal.run-requires-clause-work_fit
run-requires-clause-work_fit g c =
    let e : in_range c.geometry_at-g.result ≡ true = cc in
    let parts = parts_fit _ c.plan_for-plan.result c.sequence_of-s.result c.args.store.now c.args.work.now (in_range_lem _ e)
    c.plan_for-plan.ensures.exact c.sequence_of-s.ensures (omega arith) (omega arith) in
    parts.1
