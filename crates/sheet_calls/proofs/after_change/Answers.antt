-- `after_change` tells what `edit_reply` gives: by `accepts` or `refuses`. Assumes nothing.
use Rattle.std.proofs.Common.{◌∙◌, ◌∷◌, ℕ, refl, ap, sym, arith, rules}
use Rattle.call_put.specs.Edit.{edited_reply}
use Rattle.opening.specs.Reply.{Reply}
use Rattle.sheet_calls.specs.Answers.{number_small, refusal_numbered}
use Rattle.sheet_calls.specs.Stepping.{accepts, only_told, refuses}
use Rattle.sheet_calls.proofs.after_change.Goals as goal

pub returns-in-Ok : goal.returns-in-Ok
returns-in-Ok c =
    let n = c.args.changed.entries in
    let d = c.in-Ok.done in
    let wide = c.from.ensures in
    rw c.in-Ok.is (accepts _ n c.args.progress _ 0 (d.live ∷ d.deepest ∷ d.pages ∷ n) refl refl (search rules) (rw wide refl))

pub returns-in-Err : goal.returns-in-Err
returns-in-Err c =
    let a = c.args in
    let n = a.changed.entries in
    let told = c.edit_reply.ensures in
    let number = ap (λ (x : Reply). x.number) told in
    let small = number_small a.changed.answer n in
    refuses (edited_reply a.changed.answer n) n a.progress _ _ _ told
    (λ z. refusal_numbered c.in-Err.field-0 n (ap (λ r. (edited_reply r n).number) (sym c.in-Err.is) ∙ (sym number ∙ z)))
    (omega (arith, small, number))
    (c.only_told.ensures ∙ ap (λ (k : ℕ). only_told k a.progress) c.from-in-Err.ensures)
