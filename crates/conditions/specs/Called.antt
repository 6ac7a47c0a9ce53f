-- One call where a set stands: it answers as the set does, reports the pages that the rules write, and the set after it stands in what it leaves.
-- Assumes nothing.
use Rattle.std.specs.Prelude.{ℕ, zero, suc, ◌≤◌, ◌≡◌, ◌≢◌, Bool}
use Rattle.std.proofs.Common.{arith, sym, ◌∙◌, length-take-le}
use Rattle.std.proofs.Math.Path.{refl, ap}
use Rattle.std.proofs.Math.Bool.{true, false}
use mathlib.Core.List.{List, ◌++◌}
use Rattle.std.proofs.Math.ListN.{length, take, drop, length-append, length-drop, take-append-drop}
use Rattle.std.proofs.Math.Dec.{eqb}
use borrow.Author.Tests.{eqb-true, eqb-false, eq-eqb, ne_eqb}
use Rattle.geometry.specs.declared.Geometry.{Geometry}
use Rattle.geometry.specs.Geometry.{InRange, in_range, most}
use Rattle.geometry.specs.Places.{store_words, work_words}
use Rattle.geometry.specs.Bounds.{in_range_lem}
use Rattle.slot.specs.declared.Pair.{Pair}
use Rattle.slot.specs.Pair.{Words}
use Rattle.rules.specs.Merging.{State, formatted}
use Rattle.rules.specs.Finding.{held}
use Rattle.rules.specs.Listing.{list}
use Rattle.rules.specs.Store.{writing, empty_store}
use Rattle.std.specs.Prelude.{Ok}
use Rattle.rules.specs.Faults.{fault}
use Rattle.geometry.specs.Directory.{geometry_of}
use Rattle.rules.specs.Requests.{Request, step, pair_in}
use Rattle.walk.specs.Walked.{found}
use Rattle.walk.specs.Walk.{walked}
use Rattle.finding.specs.Asked.{decider}
use Rattle.promises.specs.Written.{good_length, good_geometry, good_tree, good_sound, good_walks}
use Rattle.promises.specs.Calls.{step_comes}
use Rattle.promises.specs.Sets.{Holds}
use Rattle.promises.proofs.Sets.{step_agrees}
use Rattle.promises.specs.Listed.{holds_lists}
use Rattle.opening.specs.Reply.{first_failing}
use Rattle.opening.specs.Opening.{opening, both_short}
use Rattle.call_ask.specs.Ask.{walk_reply, ask_walked}
use Rattle.call_why.specs.Why.{why_by_ask}
use Rattle.call_check.specs.List.{list_tested}
use Rattle.call_format.specs.Format.{format_tests, format_of}
use Rattle.conditions.specs.Calls.{Task, formatting, changing, asking, explaining, listing, checking, Call, TaskFits, comes_to, Made, make}
use Rattle.conditions.specs.Lengths.{tests_of, refusal, passed, given, geometry_then}
use Rattle.conditions.specs.Plain.{fills_slice, answer_to, leaves, answered, set_then}
use Rattle.conditions.specs.Seen.{seen_of}
use Rattle.conditions.specs.Ruled.{moves_to, writes_by, state_then, writes}
use Rattle.conditions.specs.Reports.{pages_in}
use Rattle.conditions.specs.Opened.{opens, whole_lent, rest_stays, other_refused}
use Rattle.conditions.specs.Edited.{live_told, pages_told, kept_by}
use Rattle.conditions.specs.Refused.{refused_on, refused_seen, refused_pages, ReadsStore, change_refused, format_refused_lem, opening_refuses, length_refuses}
use Rattle.conditions.specs.Stands.{Stands, empty_stands, stands_sound}

-- A call that comes to the same on the words, on the set and by the rules.
pub record CallAgrees (g : Geometry) (s : State) (set : List Pair) (words : List ℕ) (c : Call) (m : Made) : Type 0 where
  pub answers : seen_of m.task m.reply m.beside ≡ answered g c set
  pub pages : pages_in m.task m.reply ≡ length (writes g c s)
  pub after : Stands (geometry_then g c) (state_then g c s) (set_then g c set) m.words
  pub as_long : length m.words ≡ length words

module _ (g : Geometry) (s : State) (set : List Pair) (words : List ℕ) (c : Call) (stands : Stands g s set words) where
  abbrev m : Made
  m = make c words

  -- A refusal leaves all as it was.
  pub refused_agrees : (n : ℕ) → refusal g c ≡ suc n → comes_to c.task (take c.lent words) ≡ refused_on (suc n) c.task (take c.lent words) →
      CallAgrees g s set words c m
  unfolding make refused_on answered writes geometry_then state_then set_then passed
  refused_agrees n r e =
      let v = take c.lent words in
      let stays : (refused_on (suc n) c.task v).store ++ drop c.lent words ≡ words = take-append-drop c.lent words in
      rw (e, stays)
      (record {
        answers = refused_seen (suc n) v c.task ∙ rw r refl;
        pages = refused_pages (suc n) v c.task ∙ rw r refl;
        after = rw r stands;
        as_long = refl;
      })

  -- What passes goes on to what is asked.
  pub passed_agrees : refusal g c ≡ 0 → seen_of c.task m.reply m.beside ≡ answer_to (most g) c.task set →
      pages_in c.task m.reply ≡ length (writes_by g c.task s) →
      Stands (given g c.task) (moves_to g c.task s) (leaves (most g) c.task set) m.words → length m.words ≡ length words →
      CallAgrees g s set words c m
  unfolding make answered writes geometry_then state_then set_then passed
  passed_agrees r a p w l = record { answers = a ∙ rw r refl; pages = p ∙ rw r refl; after = rw r w; as_long = l }
