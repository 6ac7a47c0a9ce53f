-- `edit_tested` refuses what the tests refuse, or changes as the paper says. Assumes nothing.
use mathlib.Core.Path.{sym, ap, ◌∙◌}
use Rattle.opening.specs.Opening.{open_lent}
use Rattle.opening.specs.Refused.{error_told}
use Rattle.call_put.specs.Edit.{changed_reply, edit_unopened, edit_faulty}
use Rattle.call_put.specs.Tested.{edit_refuses, edit_changes, edit_accepts}
use Rattle.call_put.proofs.edit_tested.Goals as goal

pub returns-in_err-opened : goal.returns-in_err-opened
returns-in_err-opened c =
    let a = c.args in
    rw (error_told _ c.from_residual.ensures.1) (edit_unopened a.store.now a.work.now a.entry.normal a.entry.pair _ c.in_err-opened.ensures)

pub returns-in_err-found : goal.returns-in_err-found
returns-in_err-found c =
    let a = c.args in
    rw (error_told _ c.from_residual-in_err-found.ensures.1)
    (edit_faulty a.store.now a.work.now a.entry.normal a.entry.pair c.in_ok-opened.opened _ c.in_ok-opened.ensures (sym c.walk_survey-survey.ensures.walks ∙ c.in_err-found.was))

pub returns-in_err-test_found : goal.returns-in_err-test_found
returns-in_err-test_found c =
    let a = c.args in
    rw (error_told _ c.from_residual-in_err-test_found.ensures.1)
    (edit_refuses a.store.now a.work.now a.entry.pair a.entry.normal c.in_ok-opened.opened c.in_ok-opened.ensures c.in_ok-found.found
    (sym c.walk_survey-survey.ensures.walks ∙ c.in_ok-found.was) (sym c.in_err-test_found.ensures))

pub change-requires : goal.change-requires
change-requires c =
    let a = c.args in
    let s = c.in_ok-opened.opened in
    let o = c.in_ok-opened.ensures in record {
      lent = open_lent s a.store.now o.2;
      work_len = o.1;
      accepted = edit_accepts a.store.now a.work.now a.entry.pair a.entry.normal s o c.in_ok-found.found (sym c.walk_survey-survey.ensures.walks ∙ c.in_ok-found.was) (sym c.in_ok-test_found.ensures);
      head_value = rw o.2.2 at c.walk_survey-survey.ensures.reads;
    }

pub returns : goal.returns
returns c =
    let a = c.args in
    ap changed_reply c.change.ensures ∙
    edit_changes a.store.now a.work.now a.entry.pair a.entry.normal c.in_ok-opened.opened c.in_ok-opened.ensures c.in_ok-found.found
    (sym c.walk_survey-survey.ensures.walks ∙ c.in_ok-found.was) (sym c.in_ok-test_found.ensures)
