-- `lengths_of` gives the plan's lengths in the ranges and 0 outside them. Assumes nothing.
use mathlib.Core.Path.{ap, ◌∙◌}
use Rattle.laws.specs.Tests.{told_no, told_past}
use Rattle.geometry.specs.declared.Plan.{Plan}
use Rattle.geometry.specs.Bounds.{in_range_lem}
use Rattle.geometry.specs.Places.{store_words, work_words, plan_of}
use Rattle.landing.specs.Numbers.{no_words, its_words}
use borrow.Author.Rules.{rules}
use Rattle.std.proofs.lemmas.Bool.{not_from_false, not_from_true}
use Rattle.landing.proofs.lengths_of.Goals as goal

pub returns-then-not-in_range : goal.returns-then-not-in_range
returns-then-not-in_range c =
    let f = told_no _ _ c.in_range.ensures (not_from_false _ c.if-not-in_range.true) in
    (no_words store_words _ f, no_words work_words _ f)

pub plan_for-plan-requires : goal.plan_for-plan-requires
plan_for-plan-requires c = in_range_lem c.args.g (told_past _ _ c.in_range.ensures (not_from_true _ c.if-not-in_range.false))

pub returns : goal.returns
unfolding plan_of
returns c =
    let f = told_past _ _ c.in_range.ensures (not_from_true _ c.if-not-in_range.false) in
    let e = c.plan_for-plan.ensures.exact in (
      ap (λ (p : Plan). p.store_words) e ∙ its_words store_words _ f,
      ap (λ (p : Plan). p.work_words) e ∙ its_words work_words _ f,
    )
