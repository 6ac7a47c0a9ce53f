-- The calls since the last format, by the rules: their requests come to the state that stands, and the counts since then are theirs. So the
-- pages reported are at most those allowed. Assumes nothing.
use Rattle.std.specs.Prelude.{ℕ, zero, suc, ◌+◌, ◌≤◌, Bool, true, false, cond, length, eqb}
use Rattle.std.proofs.Common.{arith, ◌∙◌}
use Rattle.std.proofs.Math.Path.{◌≡◌, refl, sym, ap}
use mathlib.Core.List.{List, [], ◌∷◌, ◌++◌}
use borrow.Author.Tests.{ne_eqb}
use Rattle.laws.specs.Lists.{passing, passing_yes, passing_no}
use Rattle.geometry.specs.declared.Geometry.{Geometry}
use Rattle.geometry.specs.Geometry.{InRange, most}
use Rattle.slot.specs.declared.Pair.{Pair}
use Rattle.slot.specs.Pair.{Words}
use Rattle.rules.specs.Merging.{State, formatted, Outcome}
use Rattle.rules.specs.Requests.{Request, step, run, final, accepted, pair_in, RequestsFit}
use Rattle.rules.specs.Allowance.{allowed}
use Rattle.promises.specs.Sets.{Holds}
use Rattle.promises.proofs.Sets.{step_agrees}
use Rattle.promises.specs.Allowed.{reported}
use Rattle.promises.proofs.Allowed.{reported_allowed}
use Rattle.opening.specs.Reply.{Reply}
use Rattle.conditions.specs.Calls.{Task, formatting, changing, asking, explaining, listing, checking, Call, TaskFits, CallsFit, Made, make, history}
use Rattle.conditions.specs.Lengths.{refusal, passed, given, geometry_then, geometry_after}
use Rattle.conditions.specs.Plain.{Answer, answer_to, answered, set_then, refusing_number}
use Rattle.conditions.specs.Seen.{seen_number}
use Rattle.conditions.specs.Ruled.{moves_to, writes_by, writes, state_then, state_after}
use Rattle.conditions.specs.Reports.{SinceFormat, none_yet, pages_in, count_call, since_format}
use Rattle.conditions.specs.Stands.{Stands}
use Rattle.conditions.specs.Called.{CallAgrees}

-- One request more, after the others.
run_then : (g : Geometry) (rs : List Request) (s : State) (r : Request) → run g s (rs ++ r ∷ []) ≡ run g s rs ++ step g r (final s (run g s rs)) ∷ []
unfolding run final
run_then g [] s r = refl
run_then g (q ∷ rs) s r = ap (λ (os : List Outcome). step g q s ∷ os) (run_then g rs (step g q s).after r)

final_then : (os : List Outcome) (s : State) (o : Outcome) → final s (os ++ o ∷ []) ≡ o.after
unfolding final
final_then [] s o = refl
final_then (q ∷ os) s o = final_then os q.after o

accepted_more : (o : Outcome) (os : List Outcome) → length (accepted (o ∷ os)) ≡ cond (eqb o.reply 0) 1 0 + length (accepted os)
unfolding accepted
accepted_more o os = by (eqb o.reply 0) refl
  where
    is_done : Outcome → Bool
    is_done q = eqb q.reply 0

    by : (b : Bool) → is_done o ≡ b → length (passing is_done (o ∷ os)) ≡ cond b 1 0 + length (passing is_done os)
    by true e = rw (passing_yes is_done o os e) (omega arith)
    by false e = rw (passing_no is_done o os e) (omega arith)

accepted_then : (os : List Outcome) (o : Outcome) → length (accepted (os ++ o ∷ [])) ≡ length (accepted os) + cond (eqb o.reply 0) 1 0
accepted_then [] o = omega (arith, accepted_more o [])
accepted_then (q ∷ os) o = omega (arith, accepted_more q os, accepted_more q (os ++ o ∷ []), accepted_then os o)

reported_then : (os : List Outcome) (o : Outcome) → reported (os ++ o ∷ []) ≡ reported os + length o.written
unfolding reported
reported_then [] o = omega arith
reported_then (q ∷ os) o = omega (arith, reported_then os o)

fits_then : (rs : List Request) (r : Request) → RequestsFit rs → Words (pair_in r) → RequestsFit (rs ++ r ∷ [])
unfolding RequestsFit
fits_then [] r f w = (w, tt)
fits_then (q ∷ rs) r f w = (f.0, fits_then rs r f.1 w)

pub record Accounts (g : Geometry) (s : State) (t : SinceFormat) : Type 0 where
  pub requests : List Request
  pub fits : RequestsFit requests
  pub reached : s ≡ final (formatted g) (run g (formatted g) requests)
  pub accepted_all : t.accepted ≡ length (accepted (run g (formatted g) requests))
  pub reported_all : t.pages ≡ reported (run g (formatted g) requests)

pub none_accounts : (g : Geometry) → Accounts g (formatted g) none_yet
unfolding RequestsFit run final accepted passing reported
none_accounts g = record { requests = []; fits = tt; reached = refl; accepted_all = refl; reported_all = refl }

pub accounts_allowed : (g : Geometry) (s : State) (t : SinceFormat) → InRange g → Accounts g s t → t.pages ≤ allowed g t.accepted
accounts_allowed g s t fit a = rw (a.accepted_all, a.reported_all) (reported_allowed g fit a.requests a.fits)

-- A call that was refused, and one that passed the tests of lengths.
module _ (g : Geometry) (s : State) (t : SinceFormat) (a : Accounts g s t) (r : Reply) where
  pub refused_accounts : (task : Task) (n : ℕ) → r.number ≡ suc n → pages_in task r ≡ 0 → Accounts g s (count_call task r t)
  unfolding count_call
  refused_accounts (formatting h) n e p = rw (e, ne_eqb (suc n) 0 (λ q. omega (arith, q))) a
  refused_accounts (changing q work) n e p =
      let none_more : ◌≡◌ {A = ℕ} (cond (eqb r.number 0) 1 0) 0 = rw (e, ne_eqb (suc n) 0 (λ q. omega (arith, q))) refl in
      record {
        requests = a.requests;
        fits = a.fits;
        reached = a.reached;
        accepted_all = omega (arith, none_more, a.accepted_all);
        reported_all = omega (arith, p, a.reported_all);
      }
  refused_accounts (asking p) n e q = a
  refused_accounts (explaining p) n e q = a
  refused_accounts (listing first second slice) n e p = a
  refused_accounts checking n e p = a

  pub passed_accounts : (set : List Pair) (task : Task) → InRange g → Holds g s set → TaskFits task → r.number ≡ (answer_to (most g) task set).number →
      pages_in task r ≡ length (writes_by g task s) → Accounts (given g task) (moves_to g task s) (count_call task r t)
  unfolding count_call given moves_to writes_by answer_to TaskFits
  passed_accounts set (formatting h) fit holds f e p = rw e (none_accounts h)
  passed_accounts set (changing q work) fit holds f e p =
      let rs = a.requests in
      let os = run g (formatted g) rs in
      let o = step g q s in
      let here : step g q (final (formatted g) os) ≡ o = ap (step g q) (sym a.reached) in
      let next : run g (formatted g) (rs ++ q ∷ []) ≡ os ++ o ∷ [] = run_then g rs (formatted g) q ∙ ap (λ (x : Outcome). os ++ x ∷ []) here in
      let told : r.number ≡ o.reply = e ∙ sym (step_agrees g fit q s set f holds).reply in
      record {
        requests = rs ++ q ∷ [];
        fits = fits_then rs q a.fits f;
        reached = rw next (sym (final_then os (formatted g) o));
        accepted_all = rw (next, told) (omega (arith, accepted_then os o, a.accepted_all));
        reported_all = rw next (omega (arith, p, reported_then os o, a.reported_all));
      }
  passed_accounts set (asking p) fit holds f e q = a
  passed_accounts set (explaining p) fit holds f e q = a
  passed_accounts set (listing first second slice) fit holds f e p = a
  passed_accounts set checking fit holds f e p = a
