-- `open_store` runs the opening tests in their order. Assumes nothing.
use mathlib.Core.Path.{refl, sym, ap, ◌∙◌}
use lib.ListN.{length}
use borrow.Author.Tests.{le-leb, ne_eqb, eq-eqb}
use Rattle.laws.specs.Tests.{told_no, told_past}
use Rattle.geometry.specs.Places.{directory_words, plan_of}
use Rattle.geometry.specs.Bounds.{in_range_lem}
use Rattle.geometry.specs.Lent.{lent, plan_words}
use Rattle.opening.specs.Opening.{out_of_range, wrong_length, all_pass}
use Rattle.std.proofs.lemmas.Bool.{not_from_false, not_from_true}
use Rattle.opening.proofs.open_store.Goals as goal

pub returns-then-not-in_range : goal.returns-then-not-in_range
returns-then-not-in_range c =
    let w = c.args.words.now in
    let g = c.stored_geometry-geometry.ensures in
    out_of_range w (le-leb directory_words (length w) c.if-words-lt-DIRECTORY_WORDS.false) (told_no _ _ (rw g at c.in_range.ensures) (not_from_false _ c.if-not-in_range.true))

pub plan_for-plan-requires : goal.plan_for-plan-requires
plan_for-plan-requires c = in_range_lem c.stored_geometry-geometry.result (told_past _ _ c.in_range.ensures (not_from_true _ c.if-not-in_range.false))

pub returns-then-words-plan : goal.returns-then-words-plan
returns-then-words-plan c =
    let w = c.args.words.now in
    let g = c.stored_geometry-geometry.ensures in
    let p = plan_words c.plan_for-plan.result _ (c.plan_for-plan.ensures.exact ∙ ap plan_of g) in
    wrong_length w (le-leb directory_words (length w) c.if-words-lt-DIRECTORY_WORDS.false) (told_past _ _ (rw g at c.in_range.ensures) (not_from_true _ c.if-not-in_range.false))
    (ne_eqb _ _ (λ e. c.if-words-plan.true (e ∙ sym p)))

pub invariant_of-opened : goal.invariant_of-opened
invariant_of-opened c =
    let g = c.stored_geometry-geometry.result in
    let planned = c.plan_for-plan.ensures.exact in
    let fit = in_range_lem g (told_past _ _ c.in_range.ensures (not_from_true _ c.if-not-in_range.false)) in
    record { lent = lent g c.plan_for-plan.result c.args.words.now fit planned (c.if-words-plan.false ∙ plan_words c.plan_for-plan.result g planned) }

pub returns : goal.returns
returns c =
    let w = c.args.words.now in
    let g = c.stored_geometry-geometry.ensures in
    let p = plan_words c.plan_for-plan.result _ (c.plan_for-plan.ensures.exact ∙ ap plan_of g) in (
      all_pass w (le-leb directory_words (length w) c.if-words-lt-DIRECTORY_WORDS.false) (told_past _ _ (rw g at c.in_range.ensures) (not_from_true _ c.if-not-in_range.false))
          (eq-eqb _ _ (c.if-words-plan.false ∙ p)),
      g,
      refl,
    )
