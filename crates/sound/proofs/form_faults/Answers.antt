-- `form_faults` goes over the levels below the head. Assumes nothing.
use mathlib.Core.Path.{◌≡◌, refl, sym, ◌∙◌}
use Rattle.std.specs.Prelude.{Err}
use Rattle.rules.specs.Faults.{form_fault, form_faults}
use Rattle.sound.specs.Levels.{test_passes, test_fails, tests_end}
use borrow.Author.Rules.{rules}
use Rattle.sound.proofs.form_faults.Goals as goal

pub loop-level-init : goal.loop-level-init
unfolding form_faults
loop-level-init c = refl

pub loop-level-preserved : goal.loop-level-preserved
loop-level-preserved c =
    let s = c.args.store.now in
    let g = s.geometry in
    let w = s.words.now in
    let loop = c.loop-level in
    sym (test_passes (form_fault g w) loop.level _ c.loop-level-test.true (sym c.form_fault.ensures ∙ c.in_ok-form_fault.was)) ∙ loop.invariant

pub returns-in_err-form_fault : goal.returns-in_err-form_fault
returns-in_err-form_fault c =
    let s = c.args.store.now in
    let g = s.geometry in
    let w = s.words.now in
    let loop = c.loop-level in
    let fault = c.in_err-form_fault.field-0.0 in
    let handed : c.from_residual.result ≡ Err fault = search rules in
    handed ∙ sym (test_fails (form_fault g w) loop.level _ fault c.loop-level-test.true (sym c.form_fault.ensures ∙ c.in_err-form_fault.was)) ∙ loop.invariant

pub returns : goal.returns
returns c =
    let s = c.args.store.now in
    let g = s.geometry in
    let w = s.words.now in
    let loop = c.loop-level in
    sym (tests_end (form_fault g w) loop.level _ c.loop-level-test.false) ∙ loop.invariant
