-- `judge` tells the sheet's first faulty line, or that there is none. Assumes nothing.
use Rattle.std.proofs.Common.{rules, ◌≡◌, Err}
use Rattle.reading.specs.Judging.{too_much, faulty_heading, faulty_request, ready}
use Rattle.reading.proofs.judge.Goals as goal

pub returns-then-input-gt-MOST_BYTES : goal.returns-then-input-gt-MOST_BYTES
returns-then-input-gt-MOST_BYTES c = too_much c.args.input.now c.if-input-gt-MOST_BYTES.true

pub returns-in_err-heading : goal.returns-in_err-heading
returns-in_err-heading c =
    let told : c.from_residual.result ≡ Err c.in_err-heading.field-0.0 = search rules in
    rw told (faulty_heading c.args.input.now c.if-input-gt-MOST_BYTES.false _ (rw c.in_err-heading.was at c.read_geometry.ensures))

pub returns-in_err-judge_requests : goal.returns-in_err-judge_requests
returns-in_err-judge_requests c =
    let told : c.from_residual-in_err-judge_requests.result ≡ Err c.in_err-judge_requests.field-0.0 = search rules in
    let heading = rw c.in_ok-heading.was at c.read_geometry.ensures in
    rw told (faulty_request c.args.input.now c.if-input-gt-MOST_BYTES.false _ _ heading _ (rw c.in_err-judge_requests.was at c.judge_requests.ensures))

pub returns : goal.returns
returns c =
    let heading = rw c.in_ok-heading.was at c.read_geometry.ensures in
    ready c.args.input.now c.if-input-gt-MOST_BYTES.false _ _ heading (rw c.in_ok-judge_requests.was at c.judge_requests.ensures)
