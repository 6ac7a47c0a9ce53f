-- One call where a set stands: it answers as the set does, reports the pages that the rules write, and the set after it stands in what it leaves.
-- Assumes nothing.
use Rattle.std.specs.Prelude.{ℕ, zero, suc, ◌≤◌, ◌≡◌, ◌≢◌, Bool}
use Rattle.std.proofs.Common.{arith, sym, ◌∙◌, length-take-le}
use Rattle.std.proofs.Math.Path.{refl, ap}
use Rattle.std.proofs.Math.Bool.{true, false}
use mathlib.Core.List.{List, ◌++◌}
use Rattle.std.proofs.Math.ListN.{length, take, drop, length-append, length-drop, take-append-drop}
use Rattle.std.proofs.Math.Dec.{eqb}
use borrow.Author.Tests.{eqb-true, eqb-false, eq-eqb, ne_eqb}
use Rattle.geometry.specs.declared.Geometry.{Geometry}
use Rattle.geometry.specs.Geometry.{InRange, in_range, most}
use Rattle.geometry.specs.Places.{store_words, work_words}
use Rattle.geometry.specs.Bounds.{in_range_lem}
use Rattle.slot.specs.declared.Pair.{Pair}
use Rattle.slot.specs.Pair.{Words}
use Rattle.rules.specs.Merging.{State, formatted}
use Rattle.rules.specs.Finding.{held}
use Rattle.rules.specs.Listing.{list}
use Rattle.rules.specs.Store.{writing, empty_store}
use Rattle.std.specs.Prelude.{Ok}
use Rattle.rules.specs.Faults.{fault}
use Rattle.geometry.specs.Directory.{geometry_of}
use Rattle.rules.specs.Requests.{Request, step, pair_in}
use Rattle.walk.specs.Walked.{found}
use Rattle.walk.specs.Walk.{walked}
use Rattle.finding.specs.Asked.{decider}
use Rattle.promises.specs.Written.{good_length, good_geometry, good_tree, good_sound, good_walks}
use Rattle.promises.specs.Calls.{step_comes}
use Rattle.promises.specs.Sets.{Holds}
use Rattle.promises.proofs.Sets.{step_agrees}
use Rattle.promises.specs.Listed.{holds_lists}
use Rattle.opening.specs.Reply.{first_failing}
use Rattle.opening.specs.Opening.{opening, both_short}
use Rattle.call_ask.specs.Ask.{walk_reply, ask_walked}
use Rattle.call_why.specs.Why.{why_by_ask}
use Rattle.call_check.specs.List.{list_tested}
use Rattle.call_format.specs.Format.{format_tests, format_of}
use Rattle.conditions.specs.Calls.{Task, formatting, changing, asking, explaining, listing, checking, Call, TaskFits, comes_to, Made, make}
use Rattle.conditions.specs.Lengths.{tests_of, refusal, passed, given, geometry_then}
use Rattle.conditions.specs.Plain.{fills_slice, answer_to, leaves, answered, set_then}
use Rattle.conditions.specs.Seen.{seen_of}
use Rattle.conditions.specs.Ruled.{moves_to, writes_by, state_then, writes}
use Rattle.conditions.specs.Reports.{pages_in}
use Rattle.conditions.specs.Opened.{opens, whole_lent, rest_stays, other_refused}
use Rattle.conditions.specs.Edited.{live_told, pages_told, kept_by}
use Rattle.conditions.proofs.Edited.{change_kept}
use Rattle.conditions.specs.Refused.{refused_on, refused_seen, refused_pages, ReadsStore, change_refused, format_refused_lem, opening_refuses, length_refuses}
use Rattle.conditions.specs.Stands.{Stands, empty_stands, stands_sound}
use Rattle.conditions.specs.Called.{CallAgrees, passed_agrees, refused_agrees}

-- Any call on words where a set stands.
module _ (g : Geometry) (s : State) (set : List Pair) (rest : List ℕ) (fit : InRange g) (holds : Holds g s set) (n : ℕ)
    (there : n ≤ length (writing g s ++ rest)) where
  abbrev w : List ℕ
  w = writing g s

  abbrev words : List ℕ
  words = w ++ rest

  stands : Stands g s set words
  stands = record { in_range_lem = fit; holds = holds; rest = rest; written = refl }

  abbrev lending : Task → Call
  lending task = record { lent = n; task = task }

  abbrev Agreed : Task → Type 0
  Agreed task = CallAgrees g s set words (lending task) (make (lending task) words)

  -- A store that is not lent in its exact length is refused.
  short : (task : Task) → ReadsStore task → n ≢ store_words g → Agreed task
  short task f other =
      refused_agrees g s set words (lending task) stands 4 (length_refuses g n task f other)
      (opening_refuses 4 (take n words) task f (other_refused g fit s holds.good rest n there other))

  -- One that is goes on to what is asked of it.
  module _ (exact : n ≡ store_words g) where
    whole : take n words ≡ w
    whole = rw exact (whole_lent g fit s holds.good rest)

    behind : drop n words ≡ rest
    behind = rw exact (rest_stays g fit s holds.good rest)

    fits : eqb n (store_words g) ≡ true
    fits = eq-eqb n (store_words g) exact

    opened : opening w ≡ 0
    opened = opens g fit s holds.good

    stored : geometry_of w ≡ g
    stored = good_geometry g s fit holds.good

    walk_tells : (p : Pair) → walk_reply (walked (geometry_of w) w p) ≡ walk_reply (found (held p s.tree) (decider p s.tree))
    walk_tells p = ap (λ (h : Geometry). walk_reply (walked h w p)) stored ∙ ap walk_reply (good_walks g s fit holds.good p)

    ask_whole : (p : Pair) → Agreed (asking p)
    unfolding make comes_to seen_of answer_to writes_by given moves_to leaves pages_in refusal tests_of first_failing
    ask_whole p =
        let c = lending (asking p) in
        passed_agrees g s set words c stands (rw (fits, first_failing) refl)
        (rw (whole, ← (ask_walked w p opened), walk_tells p, holds.members p) refl) refl (rw (take-append-drop n words) stands)
        (ap length (take-append-drop n words))

    why_whole : (p : Pair) → Agreed (explaining p)
    unfolding make comes_to seen_of answer_to writes_by given moves_to leaves pages_in refusal tests_of first_failing
    why_whole p =
        let c = lending (explaining p) in
        passed_agrees g s set words c stands (rw (fits, first_failing) refl)
        (rw (whole, ← (why_by_ask w p _ (sym (walk_tells p) ∙ ask_walked w p opened)), holds.members p) refl) refl (rw (take-append-drop n words) stands)
        (ap length (take-append-drop n words))

    check_whole : Agreed checking
    unfolding make comes_to seen_of answer_to writes_by given moves_to leaves pages_in refusal tests_of first_failing
    check_whole =
        let c = lending checking in
        passed_agrees g s set words c stands (rw (fits, first_failing) refl) (rw (whole, stands_sound g s set words stands) refl) refl
        (rw (take-append-drop n words) stands) (ap length (take-append-drop n words))

    list_whole : (first second : Pair) (slice : List ℕ) → Agreed (listing first second slice)
    unfolding make comes_to seen_of answer_to writes_by given moves_to leaves pages_in refusal tests_of first_failing list fills_slice
    list_whole first second slice =
        let c = lending (listing first second slice) in
        let passes : fault (geometry_of w) w ≡ Ok tt = ap (λ (h : Geometry). fault h w) stored ∙ good_sound g s fit holds.good in
        let told = ap (λ (pairs : List Pair). fills_slice pairs slice) (holds_lists g s set holds first second) in
        passed_agrees g s set words c stands (rw (fits, first_failing) refl)
        (rw (whole, ← (list_tested w first second slice opened), passes, stored, good_tree g s fit holds.good) told) refl
        (rw (take-append-drop n words) stands) (ap length (take-append-drop n words))

    -- A put or drop has a work area to be lent too.
    change_unlent : (r : Request) (work : List ℕ) → length work ≢ work_words g → Agreed (changing r work)
    unfolding refusal tests_of first_failing
    change_unlent r work other =
        let differs = ne_eqb (length work) (work_words g) other in
        refused_agrees g s set words (lending (changing r work)) stands 4 (rw (fits, first_failing) (rw (differs, first_failing) refl))
        (rw whole (change_refused 4 w r work (both_short w work opened (rw stored differs))))

    change_whole : (r : Request) (work : List ℕ) → Words (pair_in r) → length work ≡ work_words g → Agreed (changing r work)
    unfolding make comes_to seen_of answer_to writes_by given moves_to leaves pages_in refusal tests_of first_failing kept_by
    change_whole r work pair right =
        let c = lending (changing r work) in
        let o = step g r s in
        let agree = step_agrees g fit r s set pair holds in
        let told = change_kept g fit s holds.good work right r pair in
        passed_agrees g s set words c stands (rw (fits, first_failing) (rw (eq-eqb (length work) (work_words g) right, first_failing) refl))
        (rw (whole, told, live_told o, agree.reply, agree.after.size) refl)
        (rw (whole, told) (pages_told g s o (step_comes g fit r s pair holds.good)))
        (rw (whole, told, behind) (record { in_range_lem = fit; holds = agree.after; rest = rest; written = refl }))
        (rw (whole, told, behind) (as_long (writing g o.after) (good_length g o.after fit agree.after.good)))
      where
        as_long : (v : List ℕ) → length v ≡ store_words g → length (v ++ rest) ≡ length words
        as_long v e = length-append v rest ∙ omega (arith, e, length-append w rest, good_length g s fit holds.good)

  -- Format has its own numbers tested, and the length that they want.
  format_tests_lem : (h : Geometry) → first_failing (format_tests (take n words) h) ≡ refusal g (lending (formatting h))
  unfolding format_tests refusal tests_of
  format_tests_lem h = rw (length-take-le n words there) refl

  format_passes : (h : Geometry) → refusal g (lending (formatting h)) ≡ 0 → (in_range h ≡ true) × (n ≡ store_words h)
  unfolding refusal tests_of first_failing
  format_passes h e = by (in_range h) refl (eqb n (store_words h)) refl
    where
      by : (a : Bool) → in_range h ≡ a → (b : Bool) → eqb n (store_words h) ≡ b → (in_range h ≡ true) × (n ≡ store_words h)
      by true p true q = (p, eqb-true n (store_words h) q)
      by true p false q =
          let failed : refusal g (lending (formatting h)) ≡ 5 = rw (p, first_failing) (rw (q, first_failing) refl) in
          absurd (omega (arith, failed, e))
      by false p b q =
          let failed : refusal g (lending (formatting h)) ≡ 1 = rw (p, first_failing) refl in
          absurd (omega (arith, failed, e))

  format_whole : (h : Geometry) → refusal g (lending (formatting h)) ≡ 0 → Agreed (formatting h)
  unfolding make comes_to seen_of answer_to writes_by given moves_to leaves pages_in format_of empty_store
  format_whole h e =
      let c = lending (formatting h) in
      let told : first_failing (format_tests (take n words) h) ≡ 0 = format_tests_lem h ∙ e in
      let passes = format_passes h e in
      let after = empty_stands h (in_range_lem h passes.0) (drop n words) in
      let long = good_length h (formatted h) after.in_range_lem after.holds.good in
      passed_agrees g s set words c stands e (rw told refl) refl (rw told after)
      (rw told (length-append (writing h (formatted h)) (drop n words) ∙ omega (arith, there, length-drop n words, passes.1, long)))

  format_any : (h : Geometry) → Agreed (formatting h)
  format_any h = by (refusal g (lending (formatting h))) refl
    where
      by : (k : ℕ) → refusal g (lending (formatting h)) ≡ k → Agreed (formatting h)
      by (suc k) e = refused_agrees g s set words (lending (formatting h)) stands k e (format_refused_lem k (take n words) h (format_tests_lem h ∙ e))
      by zero e = format_whole h e

  either : (task : Task) → ReadsStore task → (n ≡ store_words g → Agreed task) → Agreed task
  either task f exact = by (eqb n (store_words g)) refl
    where
      by : (b : Bool) → eqb n (store_words g) ≡ b → Agreed task
      by true e = exact (eqb-true n (store_words g) e)
      by false e = short task f (eqb-false n (store_words g) e)

  task_agrees : (task : Task) → TaskFits task → Agreed task
  unfolding TaskFits ReadsStore
  task_agrees (formatting h) f = format_any h
  task_agrees (changing r work) f = by (eqb n (store_words g)) refl (eqb (length work) (work_words g)) refl
    where
      by : (a : Bool) → eqb n (store_words g) ≡ a → (b : Bool) → eqb (length work) (work_words g) ≡ b → Agreed (changing r work)
      by false p b q = short (changing r work) tt (eqb-false n (store_words g) p)
      by true p false q = change_unlent (eqb-true n (store_words g) p) r work (eqb-false (length work) (work_words g) q)
      by true p true q = change_whole (eqb-true n (store_words g) p) r work f (eqb-true (length work) (work_words g) q)
  task_agrees (asking p) f = either (asking p) tt (λ e. ask_whole e p)
  task_agrees (explaining p) f = either (explaining p) tt (λ e. why_whole e p)
  task_agrees (listing first second slice) f = either (listing first second slice) tt (λ e. list_whole e first second slice)
  task_agrees checking f = either checking tt check_whole

pub call_agrees : (g : Geometry) (s : State) (set : List Pair) (words : List ℕ) (c : Call) → Stands g s set words → c.lent ≤ length words →
    TaskFits c.task → CallAgrees g s set words c (make c words)
call_agrees g s set words c stands there f =
    rw stands.written
    (task_agrees g s set stands.rest stands.in_range_lem stands.holds c.lent (rw stands.written at there) c.task f)
