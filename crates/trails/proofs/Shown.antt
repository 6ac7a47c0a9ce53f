-- What a line of a trail told, its own slots show: where it decides, the slot that it reached is an index entry of the pair; where it tells a page to
-- follow, or nothing, none of its slots is. Assumes nothing.
use Rattle.std.specs.Prelude.{ℕ, suc, ◌≡◌, Bool, cond, length, get_or, ltb, leb}
use Rattle.std.proofs.Common.{arith}
use Rattle.std.proofs.Math.Path.{refl}
use Rattle.std.proofs.Math.Bool.{true, false, not}
use mathlib.Core.List.{List}
use Rattle.laws.specs.Tests.{and_left, and_three, and_six}
use Rattle.laws.specs.Lists.{span, passing, all, equal}
use Rattle.geometry.specs.declared.Geometry.{Geometry}
use Rattle.geometry.specs.Places.{head_room, head_count_word}
use Rattle.geometry.specs.Directory.{pages_of}
use Rattle.slot.specs.declared.Pair.{Pair}
use Rattle.slot.specs.declared.Slot.{Slot}
use Rattle.slot.specs.Pair.{before}
use Rattle.rules.specs.Finding.{Told, decided, follow, nothing, tell}
use Rattle.rules.specs.Sound.{head_slots, page_slots, entries_of, in_order, legal, fence_pages, first_is_least, head_right, count_right, page_formed, page_right}
use Rattle.rules.specs.Faults.{head_fault, walk_fault}
use Rattle.form.specs.Passes.{head_scanned, page_scanned}
use Rattle.walk.specs.Stepping.{Broken}
use Rattle.walk.specs.Step.{step_of, head_step, page_step}
use Rattle.walk.specs.Trail.{head_line, page_line}
use Rattle.trails.specs.Entry.{no_entry_of}
use Rattle.trails.proofs.Entry.{undecided_none, decided_reaches}
use Rattle.trails.specs.Shown.{LineShows, Shows, run_of}

-- Slots in order show what they tell.
module _ (asked : Pair) (run : List Slot) (order : in_order run ≡ true) where
  abbrev reach : ℕ
  reach = length (passing (λ s. not (before asked s.pair)) run)

  run_shows : Shows asked run reach (step_of (tell asked run))
  run_shows = by (tell asked run) refl
    where
      apart : (told : Told) → tell asked run ≡ told → ((b : Bool) → told ≡ decided b → ⊥) → no_entry_of asked run ≡ true
      apart told e other = undecided_none asked run order (rw e other)

      by : (told : Told) → tell asked run ≡ told → Shows asked run reach (step_of told)
      by (decided b) e = decided_reaches asked run order b e
      by (follow q) e = apart (follow q) e (λ b f. let z : ◌≡◌ {A = ℕ} 0 1 = cc in omega arith)
      by nothing e = apart nothing e (λ b f. let z : ◌≡◌ {A = ℕ} 0 1 = cc in omega arith)

-- So does the line of the head, and that of a page.
module _ (g : Geometry) (w : List ℕ) (asked : Pair) where
  head_order : head_right g w ≡ true → in_order (head_slots g w) ≡ true
  unfolding head_right
  head_order e =
      (and_six (leb (get_or w head_count_word 0) (head_room g)) (ltb (length (entries_of (head_slots g w))) g.head) (in_order (head_slots g w))
      (all (legal false (pages_of g w 1)) (head_slots g w)) (equal (fence_pages (head_slots g w)) (span (λ p. p) 0 (pages_of g w 1))) (first_is_least (head_slots g w)) e).2

  page_order : (i p : ℕ) → page_right g w asked i p ≡ true → in_order (page_slots g w i p) ≡ true
  unfolding page_right page_formed
  page_order i p e =
      (and_three (count_right g w i p) (in_order (page_slots g w i p)) (all (legal true (pages_of g w (suc i))) (page_slots g w i p)) (and_left (page_formed g w i p) _ e)).1

  pub head_shows : LineShows g w asked 0 (head_line g w asked)
  unfolding run_of head_line head_step head_scanned
  head_shows = by (head_right g w) refl
    where
      by : (x : Bool) → head_right g w ≡ x →
          Shows asked (head_slots g w) (length (passing (λ s. not (before asked s.pair)) (head_slots g w))) (cond x (step_of (tell asked (head_slots g w))) (Broken (head_fault g w)))
      by true e = run_shows asked (head_slots g w) (head_order e)
      by false e = tt

  pub page_shows : (i p : ℕ) → LineShows g w asked (suc i) (page_line g w asked (suc i) p)
  unfolding run_of page_line page_step page_scanned
  page_shows i p = by (page_right g w asked (suc i) p) refl
    where
      run : List Slot
      run = page_slots g w (suc i) p

      by : (x : Bool) → page_right g w asked (suc i) p ≡ x →
          Shows asked run (length (passing (λ s. not (before asked s.pair)) run)) (cond x (step_of (tell asked run)) (Broken (walk_fault g w (suc i) p)))
      by true e = run_shows asked run (page_order (suc i) p e)
      by false e = tt
