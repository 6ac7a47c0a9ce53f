-- `format` refuses numbers out of range and then a wrong length, or makes the store of the empty set. Assumes nothing.
use mathlib.Core.Path.{sym, ◌∙◌}
use borrow.Author.Tests.{eq-eqb, ne_eqb}
use Rattle.laws.specs.Tests.{told_no, told_past}
use Rattle.geometry.specs.Bounds.{in_range_lem}
use Rattle.geometry.specs.Lent.{lent, plan_words}
use Rattle.call_format.specs.Format.{format_range, format_length, format_done_lem}
use borrow.Author.Rules.{rules}
use Rattle.std.proofs.lemmas.Bool.{not_from_false, not_from_true}
use Rattle.call_format.proofs.format.Goals as goal

pub returns-then-not-in_range : goal.returns-then-not-in_range
returns-then-not-in_range c =
    let a = c.args in
    format_range a.store.now a.g (told_no _ _ c.in_range.ensures (not_from_false _ c.if-not-in_range.true))

pub plan_for-plan-requires : goal.plan_for-plan-requires
plan_for-plan-requires c = in_range_lem c.args.g (told_past _ _ c.in_range.ensures (not_from_true _ c.if-not-in_range.false))

pub returns-then-store-plan : goal.returns-then-store-plan
returns-then-store-plan c =
    let a = c.args in
    format_length a.store.now a.g (told_past _ _ c.in_range.ensures (not_from_true _ c.if-not-in_range.false))
    (ne_eqb _ _ (λ e. c.if-store-plan.true (e ∙ sym (plan_words c.plan_for-plan.result a.g c.plan_for-plan.ensures.exact))))

pub format_store-requires : goal.format_store-requires
format_store-requires c =
    let a = c.args in
    lent a.g c.plan_for-plan.result a.store.now (in_range_lem a.g (told_past _ _ c.in_range.ensures (not_from_true _ c.if-not-in_range.false))) c.plan_for-plan.ensures.exact
    (c.if-store-plan.false ∙ plan_words c.plan_for-plan.result a.g c.plan_for-plan.ensures.exact)

pub returns : goal.returns
returns c =
    let a = c.args in
    rw c.format_store.ensures
    (format_done_lem a.store.now a.g (told_past _ _ c.in_range.ensures (not_from_true _ c.if-not-in_range.false))
    (eq-eqb _ _ (c.if-store-plan.false ∙ plan_words c.plan_for-plan.result a.g c.plan_for-plan.ensures.exact)))
