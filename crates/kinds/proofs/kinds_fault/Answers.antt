-- `kinds_fault` tells of the tree that the words hold what it is told of the four runs, and then of live. Assumes nothing.
use Rattle.std.specs.Prelude.{◌≡◌, Err}
use mathlib.Core.Path.{◌∙◌}
use Rattle.entries.specs.Levels.{runs_inside}
use Rattle.entries.specs.Ascending.{runs_ascend}
use Rattle.kinds.proofs.Told.{across_wrong, across_live}
use borrow.Author.Rules.{rules}
use Rattle.laws.specs.Clauses.{two_clauses}
use Rattle.kinds.proofs.kinds_fault.Goals as goal

pub alternation_fault-requires : goal.alternation_fault-requires
alternation_fault-requires c =
    let s = c.args.store.now in
    let pre = c.requires in
    two_clauses (λ v0 v1. record { all_inside = v0; runs_value = v1 }) (rw (c.runs_of-runs.ensures, s.lent.exact)
    (runs_inside s.geometry s.words.now s.lent.in_range_lem pre.pages_within, runs_ascend s.geometry s.words.now s.lent.in_range_lem ∙ pre.store_value))

pub count_kinds-requires : goal.count_kinds-requires
count_kinds-requires c =
    let s = c.args.store.now in
    rw (c.runs_of-runs.ensures, s.lent.exact)
    (runs_inside s.geometry s.words.now s.lent.in_range_lem c.requires.pages_within)

pub returns-in_err-alternation_fault : goal.returns-in_err-alternation_fault
returns-in_err-alternation_fault c =
    let s = c.args.store.now in
    let fault = c.in_err-alternation_fault.field-0.0 in
    let handed : c.from_residual.result ≡ Err fault = search rules in
    handed ∙ across_wrong s.geometry s.words.now s.lent.in_range_lem _ c.runs_of-runs.ensures _ c.alternation_fault.ensures fault c.in_err-alternation_fault.was

pub returns : goal.returns
returns c =
    let s = c.args.store.now in
    c.live_fault.ensures ∙
    across_live s.geometry s.words.now s.lent.in_range_lem _ c.runs_of-runs.ensures _ c.alternation_fault.ensures
    c.count_kinds.result c.in_ok-alternation_fault.was c.count_kinds.ensures
