-- `held_number` tells what `ask_reply` gives. Assumes nothing.
use Rattle.std.proofs.Common.{◌≡◌, ◌∙◌, arith, refl, Bool, true, false, cond}
use Rattle.call_ask.specs.Ask.{ask_reply}
use Rattle.sheet_calls.specs.Calls.{held_number}
use Rattle.sheet_calls.specs.Answers.{found_tells, held_small, refused_tells}
use Rattle.sheet_calls.proofs.held_number.Goals as goal

held_byte : (b : Bool) → mir.Val.bool_byte b ≡ cond b 1 0
held_byte true = refl
held_byte false = refl

pub returns-in-Ok : goal.returns-in-Ok
returns-in-Ok c =
    let told : c.from.result ≡ held_number (ask_reply c.args.answer) = rw c.in-Ok.is (c.from.ensures ∙ (held_byte c.in-Ok.found.held ∙ found_tells c.in-Ok.found)) in
    (told, omega (arith, told, held_small c.args.answer))

pub returns-in-Err : goal.returns-in-Err
returns-in-Err c = (rw c.in-Err.is (refused_tells c.in-Err.field-0), omega arith)
