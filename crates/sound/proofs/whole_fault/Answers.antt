-- `whole_fault` finds the fault of the whole store: each way out by the first part that fails. Assumes nothing.
use mathlib.Core.Path.{◌≡◌, sym, ap, ◌∙◌}
use Rattle.std.specs.Prelude.{Err}
use Rattle.entries.specs.Ready.{writings_ready}
use Rattle.form.specs.Passes.{head_unflawed, head_flaw}
use Rattle.rules.specs.Faults.{writing_faults, across_fault}
use Rattle.rules.specs.Found.{only_one, none_first, fault_first}
use Rattle.sound.specs.Levels.{fault_directory, fault_head, fault_form, fault_deeper, head_told}
use borrow.Author.Rules.{rules}
use Rattle.sound.proofs.whole_fault.Goals as goal

pub returns-then-not-directory_right : goal.returns-then-not-directory_right
returns-then-not-directory_right c =
    let s = c.args.store.now in
    rw c.of.ensures (fault_directory s.geometry s.words.now (sym c.directory_right.ensures ∙ c.if-not-directory_right.true))

pub returns-in-Err : goal.returns-in-Err
returns-in-Err c =
    let s = c.args.store.now in
    let g = s.geometry in
    let w = s.words.now in
    let right = sym c.directory_right.ensures ∙ c.if-not-directory_right.false in
    let scan = c.walk_survey-survey.ensures.reads in
    ap Err (c.at.ensures ∙ rw c.in-Err.is at (head_told g w _ scan)) ∙ fault_head g w right (head_flaw g w _ scan c.in-Err.is).0

pub returns-in_err-form_faults : goal.returns-in_err-form_faults
returns-in_err-form_faults c =
    let s = c.args.store.now in
    let g = s.geometry in
    let w = s.words.now in
    let right = sym c.directory_right.ensures ∙ c.if-not-directory_right.false in
    let head = head_unflawed g w _ c.walk_survey-survey.ensures.reads c.in_default.is in
    let fault = c.in_err-form_faults.field-0.0 in
    let handed : c.from_residual.result ≡ Err fault = search rules in
    handed ∙ fault_form g w right head fault (sym c.form_faults.ensures ∙ c.in_err-form_faults.was)

pub writing_faults-requires-clause-store_value_2 : goal.writing_faults-requires-clause-store_value_2
writing_faults-requires-clause-store_value_2 c =
    let s = c.args.store.now in
    let g = s.geometry in
    let w = s.words.now in
    let head = head_unflawed g w _ c.walk_survey-survey.ensures.reads c.in_default.is in
    head

pub returns-in_err-writing_faults : goal.returns-in_err-writing_faults
returns-in_err-writing_faults c =
    let s = c.args.store.now in
    let g = s.geometry in
    let w = s.words.now in
    let right = sym c.directory_right.ensures ∙ c.if-not-directory_right.false in
    let head = head_unflawed g w _ c.walk_survey-survey.ensures.reads c.in_default.is in
    let forms = sym c.form_faults.ensures ∙ c.in_ok-form_faults.was in
    let fault = c.in_err-writing_faults.field-0.0 in
    let handed : c.from_residual-in_err-writing_faults.result ≡ Err fault = search rules in
    handed ∙ sym (fault_first _ (writing_faults g w) fault (sym c.writing_faults.ensures ∙ c.in_err-writing_faults.was)) ∙ fault_deeper g w right head forms

pub kinds_fault-requires : goal.kinds_fault-requires
kinds_fault-requires c =
    let s = c.args.store.now in
    let g = s.geometry in
    let w = s.words.now in
    let right = sym c.directory_right.ensures ∙ c.if-not-directory_right.false in
    let ready = writings_ready g w right (sym c.writing_faults.ensures ∙ c.in_ok-writing_faults.was) in record {
      pages_within = ready.0;
      store_value = ready.1;
    }

pub returns : goal.returns
returns c =
    let s = c.args.store.now in
    let g = s.geometry in
    let w = s.words.now in
    let right = sym c.directory_right.ensures ∙ c.if-not-directory_right.false in
    let head = head_unflawed g w _ c.walk_survey-survey.ensures.reads c.in_default.is in
    let forms = sym c.form_faults.ensures ∙ c.in_ok-form_faults.was in
    c.kinds_fault.ensures ∙
    sym (none_first _ (writing_faults g w) (sym c.writing_faults.ensures ∙ c.in_ok-writing_faults.was) ∙ only_one (across_fault g w)) ∙ fault_deeper g w right head forms
