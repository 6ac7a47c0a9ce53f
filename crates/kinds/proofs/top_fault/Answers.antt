-- `top_fault` tells of the top level: nothing where it stands right by itself, else what `run_fault` ensures. Assumes nothing.
use Rattle.kinds.specs.Below.{below_inside, top_ascends}
use Rattle.kinds.specs.Told.{top_fault, right_told}
use Rattle.laws.specs.Clauses.{two_clauses, three_clauses}
use Rattle.kinds.proofs.top_fault.Goals as goal

pub stands_alone-requires : goal.stands_alone-requires
stands_alone-requires c = two_clauses (λ v0 v1. record { inside = v0; all_inside = v1 }) (rw c.below-lower.ensures (c.requires.all_inside.head, below_inside c.args.runs _ c.requires.all_inside))

pub returns-then-stands_alone : goal.returns-then-stands_alone
unfolding top_fault
returns-then-stands_alone c =
    let a = c.args in
    rw (← c.below-lower.ensures) (right_told a.words.now a.level a.runs.head _ (c.stands_alone.ensures c.if-stands_alone.true))

pub run_fault-requires : goal.run_fault-requires
run_fault-requires c =
    let a = c.args in
    three_clauses (λ v0 v1 v2. record { inside = v0; all_inside = v1; lower_value = v2 }) (rw c.below-lower.ensures
    (c.requires.all_inside.head, (below_inside a.runs _ c.requires.all_inside, top_ascends a.words.now a.runs c.requires.runs_value)))

pub returns : goal.returns
unfolding top_fault
returns c = rw (← c.below-lower.ensures) c.run_fault.ensures
