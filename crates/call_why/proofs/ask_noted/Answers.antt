-- `ask_noted` gives ask's answer, and the lines of the walk, or none where an opening test fails. Assumes nothing.
use mathlib.Core.Path.{sym, ◌∙◌}
use Rattle.call_ask.specs.Ask.{ask_unopened, ask_faulty, ask_answers}
use Rattle.call_why.specs.Why.{lines_unopened, lines_opened}
use Rattle.call_why.proofs.ask_noted.Goals as goal

pub returns-in_err-store : goal.returns-in_err-store
returns-in_err-store c =
    let a = c.args in
    let opens = c.in_err-store.ensures in record {
      answers = ask_unopened a.store.now a.pair _ _ opens c.from_residual.ensures.1;
      notes = lines_unopened a.store.now a.pair _ opens _;
    }

pub returns-in_err-walk_noted : goal.returns-in_err-walk_noted
returns-in_err-walk_noted c =
    let a = c.args in
    let s = c.in_ok-store.store in
    let opens = c.in_ok-store.ensures in record {
      answers = ask_faulty a.store.now a.pair s _ _ opens (sym c.in_err-walk_noted.was ∙ c.walk_noted.ensures.walks) c.from_residual-in_err-walk_noted.ensures.1;
      notes = c.walk_noted.ensures.notes ∙ lines_opened a.store.now a.pair s opens _;
    }

pub returns : goal.returns
returns c =
    let a = c.args in
    let s = c.in_ok-store.store in
    let opens = c.in_ok-store.ensures in record {
      answers = ask_answers a.store.now a.pair s _ opens (sym c.in_ok-walk_noted.was ∙ c.walk_noted.ensures.walks);
      notes = c.walk_noted.ensures.notes ∙ lines_opened a.store.now a.pair s opens _;
    }
