-- The calls since the last format, by the rules: their requests come to the state that stands, and the counts since then are theirs. So the
-- pages reported are at most those allowed. Assumes nothing.
use Rattle.std.specs.Prelude.{ℕ, zero, suc, ◌+◌, ◌≤◌, Bool, true, false, cond, length, eqb}
use Rattle.std.proofs.Common.{arith, ◌∙◌}
use Rattle.std.proofs.Math.Path.{◌≡◌, refl, sym, ap}
use mathlib.Core.List.{List, [], ◌∷◌, ◌++◌}
use borrow.Author.Tests.{ne_eqb}
use Rattle.laws.specs.Lists.{passing, passing_yes, passing_no}
use Rattle.geometry.specs.declared.Geometry.{Geometry}
use Rattle.geometry.specs.Geometry.{InRange, most}
use Rattle.slot.specs.declared.Pair.{Pair}
use Rattle.slot.specs.Pair.{Words}
use Rattle.rules.specs.Merging.{State, formatted, Outcome}
use Rattle.rules.specs.Requests.{Request, step, run, final, accepted, pair_in, RequestsFit}
use Rattle.rules.specs.Allowance.{allowed}
use Rattle.promises.specs.Sets.{Holds}
use Rattle.promises.proofs.Sets.{step_agrees}
use Rattle.promises.specs.Allowed.{reported}
use Rattle.promises.proofs.Allowed.{reported_allowed}
use Rattle.opening.specs.Reply.{Reply}
use Rattle.conditions.specs.Calls.{Task, formatting, changing, asking, explaining, listing, checking, Call, TaskFits, CallsFit, Made, make, history}
use Rattle.conditions.specs.Lengths.{refusal, passed, given, geometry_then, geometry_after}
use Rattle.conditions.specs.Plain.{Answer, answer_to, answered, set_then, refusing_number}
use Rattle.conditions.specs.Seen.{seen_number}
use Rattle.conditions.specs.Ruled.{moves_to, writes_by, writes, state_then, state_after}
use Rattle.conditions.specs.Reports.{SinceFormat, none_yet, pages_in, count_call, since_format}
use Rattle.conditions.specs.Stands.{Stands}
use Rattle.conditions.specs.Called.{CallAgrees}
use Rattle.conditions.proofs.Called.{call_agrees}
use Rattle.conditions.specs.Accounts.{Accounts, passed_accounts, refused_accounts}

call_accounts : (g : Geometry) (s : State) (set : List Pair) (words : List ℕ) (c : Call) (t : SinceFormat) → Stands g s set words →
    CallAgrees g s set words c (make c words) → TaskFits c.task → Accounts g s t → Accounts (geometry_then g c) (state_then g c s) (count_call c.task (make c words).reply t)
unfolding make answered writes geometry_then state_then passed
call_accounts g s set words c t stands agrees f a = by (refusal g c) refl
  where
    m : Made
    m = make c words

    told : m.reply.number ≡ (answered g c set).number
    told = sym (seen_number c.task m.reply m.beside) ∙ ap (λ (x : Answer). x.number) agrees.answers

    by : (n : ℕ) → refusal g c ≡ n →
        Accounts (passed (refusal g c) (given g c.task) g) (passed (refusal g c) (moves_to g c.task s) s) (count_call c.task m.reply t)
    by zero e =
        rw e
        (passed_accounts g s t a m.reply set c.task stands.in_range_lem stands.holds f (told ∙ rw e refl) (agrees.pages ∙ rw e refl))
    by (suc n) e = rw e (refused_accounts g s t a m.reply c.task n (told ∙ rw e (refusing_number (suc n) c.task)) (agrees.pages ∙ rw e refl))

pub calls_account : (cs : List Call) (g : Geometry) (s : State) (set : List Pair) (words : List ℕ) (t : SinceFormat) → Stands g s set words →
    CallsFit (length words) cs → Accounts g s t → Accounts (geometry_after g cs) (state_after g s cs) (since_format t (history words cs))
unfolding CallsFit history geometry_after state_after since_format make
calls_account [] g s set words t stands f a = a
calls_account (c ∷ cs) g s set words t stands f a =
    let here = call_agrees g s set words c stands f.0.0 f.0.1 in
    let m = make c words in
    calls_account cs (geometry_then g c) (state_then g c s) (set_then g c set) m.words (count_call c.task m.reply t) here.after
    (rw here.as_long f.1) (call_accounts g s set words c t stands here f.0.1 a)
