-- The numbers of the plain set's replies: no fault among them. Assumes nothing.
use Rattle.std.specs.Prelude.{ℕ, zero, suc, ◌≡◌, refl, Bool, true, false, List, [], ◌∷◌, length, ltb}
use Rattle.laws.specs.Lists.{all}
use Rattle.laws.specs.Flat.{all_first, all_rest}
use Rattle.fault.specs.declared.Part.TheVariants.{Directory}
use Rattle.fault.specs.Numbers.{number_of}
use Rattle.geometry.specs.declared.Geometry.{Geometry}
use Rattle.geometry.specs.Geometry.{most}
use Rattle.slot.specs.declared.Pair.{Pair}
use Rattle.rules.specs.Requests.{Request, putting, dropping}
use Rattle.promises.specs.Plain.{has}
use Rattle.promises.specs.Answers.{answer}
use Rattle.opening.specs.Reply.{first_among_lem}
use Rattle.conditions.specs.Calls.{Task, formatting, changing, asking, explaining, listing, checking, Call, Made}
use Rattle.conditions.specs.Lengths.{tests_of, refusal, passed, geometry_then}
use Rattle.conditions.specs.Plain.{Answer, fills_slice, answer_to, refusing, answered, set_then, answers, refusing_number}
use Rattle.conditions.specs.Seen.{seen_of, seen, seen_number}

-- Any number below those of faults, which are 10 to 14.
unfoldable pub no_fault : ℕ → Bool
no_fault n = ltb n (number_of Directory)

refusal_few : (g : Geometry) (n : ℕ) (task : Task) → no_fault (refusal g (record { lent = n; task = task })) ≡ true
unfolding refusal tests_of all no_fault
refusal_few g n task = first_among_lem no_fault (tests_of g n task) refl (by task)
  where
    by : (task : Task) → all (λ t. no_fault t.number) (tests_of g n task) ≡ true
    by (formatting h) = refl
    by (changing r work) = refl
    by (asking p) = refl
    by (explaining p) = refl
    by (listing first second slice) = refl
    by checking = refl

answer_few : (m : ℕ) (r : Request) (set : List Pair) → no_fault (answer m r set).reply ≡ true
unfolding answer no_fault
answer_few m (putting p) set = by (has p set) refl (ltb (length set) m) refl
  where
    by : (a : Bool) → has p set ≡ a → (b : Bool) → ltb (length set) m ≡ b → no_fault (answer m (putting p) set).reply ≡ true
    by true e b f = rw (e, answer) refl
    by false e true f = rw (e, f, answer) refl
    by false e false f = rw (e, f, answer) refl
answer_few m (dropping p) set = by (has p set) refl
  where
    by : (a : Bool) → has p set ≡ a → no_fault (answer m (dropping p) set).reply ≡ true
    by true e = rw (e, answer) refl
    by false e = rw (e, answer) refl

task_few : (m : ℕ) (task : Task) (set : List Pair) → no_fault (answer_to m task set).number ≡ true
unfolding answer_to fills_slice no_fault
task_few m (formatting g) set = refl
task_few m (changing r work) set = answer_few m r set
task_few m (asking p) set = refl
task_few m (explaining p) set = refl
task_few m (listing first second slice) set = refl
task_few m checking set = refl

call_few : (g : Geometry) (c : Call) (set : List Pair) → no_fault (answered g c set).number ≡ true
unfolding answered passed
call_few g c set = by (refusal g c) refl
  where
    by : (n : ℕ) → refusal g c ≡ n → no_fault (passed n (answer_to (most g) c.task set) (refusing n c.task)).number ≡ true
    by zero e = task_few (most g) c.task set
    by (suc n) e = rw (refusing_number (suc n) c.task, ← e) (refusal_few g c.lent c.task)

calls_few : (cs : List Call) (g : Geometry) (set : List Pair) → all (λ a. no_fault a.number) (answers g set cs) ≡ true
unfolding answers all
calls_few [] g set = refl
calls_few (c ∷ cs) g set = rw (call_few g c set, all) (calls_few cs (geometry_then g c) (set_then g c set))

-- So none is among the replies of calls that are seen to answer so.
seen_few : (ms : List Made) → all (λ a. no_fault a.number) (seen ms) ≡ true → all (λ m. no_fault m.reply.number) ms ≡ true
unfolding seen all
seen_few [] h = refl
seen_few (m ∷ ms) h =
    let a = seen_of m.task m.reply m.beside in
    let first = all_first (λ (a : Answer). no_fault a.number) a (seen ms) h in
    rw (rw (seen_number m.task m.reply m.beside) at first, all) (seen_few ms (all_rest (λ (a : Answer). no_fault a.number) a (seen ms) h))

pub no_faults : (ms : List Made) (g : Geometry) (set : List Pair) (cs : List Call) → seen ms ≡ answers g set cs →
    all (λ m. no_fault m.reply.number) ms ≡ true
no_faults ms g set cs e = seen_few ms (rw e (calls_few cs g set))
