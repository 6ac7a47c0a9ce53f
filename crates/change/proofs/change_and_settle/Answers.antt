-- `change_and_settle` tests the whole store, and leaves one with a fault as it is; else it edits and settles the head. Assumes nothing.
use mathlib.Core.Path.{◌≡◌, sym, ◌∙◌}
use Rattle.std.specs.Prelude.{Ok}
use Rattle.rules.specs.Faults.{fault}
use Rattle.stored.specs.Fitting.{WordsFit}
use Rattle.entries.specs.Run.{entry as indexed}
use Rattle.change.specs.Change.{fault_on, merge_stays}
use Rattle.change.specs.Head.{accepted_editable}
use Rattle.change.specs.Settled.{anew_ready, anew_settled}
use native.Mathlib.Omega.{arith}
use borrow.Author.Rules.{rules}
use Rattle.change.proofs.change_and_settle.Goals as goal

pub edit_head-requires : goal.edit_head-requires
edit_head-requires c =
    let a = c.args in
    let pre = c.requires in
    let anew = pre.accepted_anew in
    accepted_editable a.g a.plan a.store.now (indexed a.entry) anew.level pre.lent anew.accepted a.reach pre.reach_value

pub settle_head-requires-clause-settling : goal.settle_head-requires-clause-settling
settle_head-requires-clause-settling c =
    let a = c.args in
    let pre = c.requires in
    let fits : WordsFit a.store.now = λ i. omega (arith, c.slice_known-1.given i) in
    let passes : fault a.g a.store.now ≡ Ok tt = sym c.whole_fault.ensures ∙ c.in_default.is in
    (anew_ready a.g a.plan a.store.now _ a.entry.pair a.entry.normal a.reach pre.lent fits (λ i. omega (arith, c.slice_known-3-1.given i)) pre.accepted_anew
    pre.reach_value c.edit_head.ensures passes).1

pub returns-in-Err : goal.returns-in-Err
unfolding fault_on
returns-in-Err c =
    let a = c.args in
    merge_stays a.g (indexed a.entry) a.store.now a.work.now _ (sym c.whole_fault.ensures ∙ c.in-Err.is)

pub returns : goal.returns
returns c =
    let a = c.args in
    let pre = c.requires in
    let fits : WordsFit a.store.now = λ i. omega (arith, c.slice_known-1.given i) in
    let passes : fault a.g a.store.now ≡ Ok tt = sym c.whole_fault.ensures ∙ c.in_default.is in
    c.settle_head.ensures ∙
    anew_settled a.g a.plan a.store.now _ a.entry.pair a.entry.normal a.reach pre.lent fits (λ i. omega (arith, c.slice_known-3-1.given i)) pre.accepted_anew
    pre.reach_value c.edit_head.ensures passes
    a.work.now
