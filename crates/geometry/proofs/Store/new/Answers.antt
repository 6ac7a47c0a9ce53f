-- `Store::new` gives a store as it is lent: its plan is its geometry's. Assumes nothing.
use Rattle.geometry.specs.Lent.{lent}
use Rattle.geometry.proofs.Store.new.Goals as goal

pub invariant_of-result : goal.invariant_of-result
invariant_of-result c =
    let a = c.args in
    record { lent = lent a.geometry c.plan_for-plan.result a.words.now c.requires.in_range c.plan_for-plan.ensures.exact c.requires.exact }
