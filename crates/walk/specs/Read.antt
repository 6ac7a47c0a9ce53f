-- What the tests of the head and of a page tell the step that follows them: slot order, legal tags, a first slot that is a fence at most
-- the pair, so that the slot that a pass reached tells what the whole run does. Assumes nothing.
use Prim.Native.Nat.{ℕ, zero, suc, ◌+◌, ◌-◌, ◌*◌, ◌≤◌, ◌<◌, min}
use Rattle.std.proofs.Math.Nat.{min-le_right}
use Rattle.std.proofs.Common.{le_trans, sym, ap, ◌∙◌}
use native.Mathlib.Omega.{arith}
use Rattle.std.specs.Prelude.{◌≡◌, refl, Bool, ◌&&◌, ◌||◌, List, length, get_or, ltb, leb, eqb, Err}
use Rattle.std.proofs.Math.Bool.{true, false, not}
use borrow.Author.Tests.{leb-true, eq-eqb, ne_eqb, eqb-true, not-true}
use Rattle.laws.specs.Tests.{and_left, and_right, and_three, and_six}
use Rattle.laws.specs.Lists.{span, passing, all, equal, passing_yes, passing_small}
use Rattle.geometry.specs.declared.Geometry.{Geometry}
use Rattle.geometry.specs.Geometry.{bottom}
use Rattle.geometry.specs.Places.{head_room, page_place, head_count_word, head_start}
use Rattle.geometry.specs.Apart.{first_slot}
use Rattle.slot.specs.declared.Pair.{Pair}
use Rattle.slot.specs.declared.Slot.{Slot}
use Rattle.slot.specs.Pair.{least, before, same, none_before_least}
use Rattle.slot.specs.Slot.{slot_at}
use Rattle.page.specs.Told.{length_run}
use Rattle.rules.specs.Level.{fence_kind}
use Rattle.rules.specs.Sound.{slots_from, head_slots, count_at, page_slots, entries_of, in_order, legal, fence_pages, first_is_least, head_right, count_right, page_formed, first_right, page_right}
use Rattle.geometry.specs.Directory.{pages_of, pages_none}
use Rattle.fault.specs.declared.Part.TheVariants.{Head, Page, Writing}
use Rattle.fault.specs.Numbers.{fault_in}
use Rattle.rules.specs.Faults.{head_fault, page_fault, walk_fault}
use Rattle.walk.specs.Stepping.{Broken}
use Rattle.form.specs.declared.HeadRead.{HeadRead}
use Rattle.form.specs.declared.PageRead.{PageRead}
use Rattle.form.specs.Passes.{fence_up_to, least_fence, page_scanned, head_scanned, first_slots, head_count, head_reach, page_reach, head_flaw, page_flaw, slot_told, head_slot_told, page_slot_told}
use Rattle.walk.specs.Step.{head_step, page_step, StepWithin, above_step, bottom_step, above_tells, above_within, bottom_tells}

-- Where the first slot is at most the pair, a pass reaches it.
reach_some : (w : List ℕ) (place n : ℕ) (asked : Pair) → 1 ≤ n → before asked (slot_at w (place + 3 * 0)).pair ≡ false →
    1 ≤ length (passing (λ s. not (before asked s.pair)) (slots_from w place n))
unfolding slots_from span
reach_some w place zero asked h e = absurd (omega arith)
reach_some w place (suc n) asked h e =
    rw (passing_yes (λ (s : Slot). not (before asked s.pair)) (slot_at w (place + 3 * 0)) (span (λ j. slot_at w (place + 3 * j)) 1 n) (ap not e)) (omega arith)

-- The first slot of a run.
first_of_lem : (w : List ℕ) (place n : ℕ) (asked : Pair) → 1 ≤ n → first_right asked (slots_from w place n) ≡ fence_up_to asked (slot_at w place)
unfolding slots_from span first_right fence_up_to
first_of_lem w place zero asked h = absurd (omega arith)
first_of_lem w place (suc n) asked h =
    let here : place + 3 * 0 ≡ place = omega arith in
    rw here

-- Above the bottom a page that is right has a slot.
counted : (g : Geometry) (w : List ℕ) (i p : ℕ) → suc i < g.levels → count_right g w i p ≡ true → 1 ≤ min (count_at g w i p) 21
unfolding count_right
counted g w i p h e = some (leb 1 (count_at g w i p)) refl (and_right (leb (count_at g w i p) 21) _ e)
  where
    some : (b : Bool) → leb 1 (count_at g w i p) ≡ b → (leb 1 (count_at g w i p) || (eqb i (bottom g) && eqb (pages_of g w i) 1)) ≡ true →
        1 ≤ min (count_at g w i p) 21
    some true f t = omega (arith, leb-true 1 (count_at g w i p) f)
    some false f t =
        absurd (let z : eqb i (bottom g) ≡ true = and_left (eqb i (bottom g)) (eqb (pages_of g w i) 1) (rw f at t) in omega (arith, eqb-true i (bottom g) z))

-- The head.
module _ (g : Geometry) (w : List ℕ) (asked : Pair) where
  abbrev head_run : List Slot
  head_run = slots_from w head_start (head_count g w)

  pub head_wrong : {head : HeadRead} → head ≡ head_scanned g w asked → head_right g w ≡ false →
      Broken (fault_in Head 0 0 (slot_told head.formed)) ≡ head_step g w asked
  unfolding head_step head_fault
  head_wrong told e = rw (head_slot_told g w asked told, e)

  pub head_broken : {head : HeadRead} → head ≡ head_scanned g w asked → {slot : ℕ} → head.formed ≡ Err slot →
      Broken (fault_in Head 0 0 slot) ≡ head_step g w asked
  head_broken told e = rw e at (head_wrong told (head_flaw g w asked told e).0)

  module _ (right : head_right g w ≡ true) where
    pub head_tests : (leb (get_or w head_count_word 0) (head_room g) ≡ true) × (ltb (length (entries_of head_run)) g.head ≡ true) × (in_order head_run ≡ true) ×
        (all (legal false (pages_of g w 1)) head_run ≡ true) × (equal (fence_pages head_run) (span (λ p. p) 0 (pages_of g w 1)) ≡ true) ×
        (first_is_least head_run ≡ true)
    unfolding head_right head_slots
    head_tests =
        and_six (leb (get_or w head_count_word 0) (head_room g)) (ltb (length (entries_of head_run)) g.head) (in_order head_run) (all (legal false (pages_of g w 1)) head_run)
        (equal (fence_pages head_run) (span (λ p. p) 0 (pages_of g w 1))) (first_is_least head_run) right

    -- Its first slot is the least fence.
    first_test : (leb 1 (head_count g w) && least_fence (slot_at w head_start)) ≡ true
    first_test = sym (first_slots w (head_count g w)) ∙ head_tests.5

    pub head_first : fence_kind (slot_at w head_start).kind ≡ true
    unfolding least_fence
    head_first = and_left (fence_kind (slot_at w head_start).kind) (same least (slot_at w head_start).pair) (and_right (leb 1 (head_count g w)) (least_fence (slot_at w head_start)) first_test)

    pub head_some : 1 ≤ (head_scanned g w asked).reach
    unfolding least_fence head_slots
    head_some =
        let f = and_right (fence_kind (slot_at w head_start).kind) (same least (slot_at w head_start).pair) (and_right (leb 1 (head_count g w)) (least_fence (slot_at w head_start)) first_test) in
        rw (head_reach g w asked)
        (reach_some w head_start (head_count g w) asked (leb-true 1 (head_count g w) (and_left (leb 1 (head_count g w)) (least_fence (slot_at w head_start)) first_test)) (none_before_least asked (slot_at w head_start).pair f))

    pub head_reach_small : (head_scanned g w asked).reach ≤ head_room g
    unfolding head_slots
    head_reach_small =
        rw (head_reach g w asked) (le_trans (passing_small (λ (s : Slot). not (before asked s.pair)) head_run) (rw (length_run w head_start (head_count g w)) (min-le_right (get_or w head_count_word 0) (head_room g))))

    pub head_tells : above_step w head_start ((head_scanned g w asked).reach - 1) asked ≡ head_step g w asked
    unfolding head_step head_slots
    head_tells =
        rw right
        (above_tells w head_start (head_count g w) asked false (pages_of g w 1) (head_scanned g w asked).reach head_tests.2 head_tests.3 (head_reach g w asked) head_first head_some)

    pub head_within : StepWithin (pages_of g w 1) (above_step w head_start ((head_scanned g w asked).reach - 1) asked)
    unfolding head_slots
    head_within =
        above_within w head_start (head_count g w) asked false (pages_of g w 1) (head_scanned g w asked).reach head_tests.2 head_tests.3 (head_reach g w asked) head_first head_some

-- A page of a lower level.
module _ (g : Geometry) (w : List ℕ) (asked : Pair) (i p : ℕ) where
  abbrev page_count : ℕ
  page_count = min (count_at g w i p) 21

  abbrev place : ℕ
  place = page_place g i p + 1

  abbrev page_run : List Slot
  page_run = slots_from w place page_count

  page_run_lem : page_slots g w i p ≡ page_run
  unfolding page_slots
  page_run_lem = rw (first_slot g i p)

  pub page_wrong : {page : PageRead} → page ≡ page_scanned g w asked i p → page_formed g w i p ≡ false →
      Broken (fault_in Page i p (slot_told page.formed)) ≡ page_step g w asked i p
  unfolding page_step page_right walk_fault page_fault
  page_wrong told e = rw (page_slot_told g w asked i p told, e)

  pub page_broken : {page : PageRead} → page ≡ page_scanned g w asked i p → {slot : ℕ} → page.formed ≡ Err slot →
      Broken (fault_in Page i p slot) ≡ page_step g w asked i p
  page_broken told e = rw e at (page_wrong told (page_flaw g w asked i p told e).0)

  module _ (formed : page_formed g w i p ≡ true) where
    page_tests_lem : (count_right g w i p ≡ true) × (in_order page_run ≡ true) × (all (legal true (pages_of g w (suc i))) page_run ≡ true)
    unfolding page_formed
    page_tests_lem = and_three (count_right g w i p) (in_order page_run) (all (legal true (pages_of g w (suc i))) page_run) (rw page_run_lem at formed)

    page_reaches : (page_scanned g w asked i p).reach ≡ length (passing (λ s. not (before asked s.pair)) page_run)
    page_reaches = rw page_run_lem at (page_reach g w asked i p)

    pub page_reach_small : (page_scanned g w asked i p).reach ≤ 21
    page_reach_small =
        rw page_reaches (le_trans (passing_small (λ (s : Slot). not (before asked s.pair)) page_run) (rw (length_run w place page_count) (min-le_right (count_at g w i p) 21)))

    -- The bottom: no fence is legal there.
    pub page_bottom : g.levels ≡ suc i → bottom_step w place (page_scanned g w asked i p).reach asked ≡ page_step g w asked i p
    unfolding page_step page_right
    page_bottom b =
        rw (formed, eq-eqb i (bottom g) (omega arith), page_run_lem)
        (bottom_tells w place page_count asked true (page_scanned g w asked i p).reach page_tests_lem.1 (rw (no_pages b) at page_tests_lem.2) page_reaches)
      where
        no_pages : g.levels ≡ suc i → pages_of g w (suc i) ≡ 0
        no_pages b = pages_none g w (suc i) (omega arith)

    -- Above the bottom: the first slot is a fence at most the pair.
    module _ (above : suc i < g.levels) where
      apart : eqb i (bottom g) ≡ false
      apart = ne_eqb i (bottom g) (λ e. omega arith)

      first_of_page : 1 ≤ page_count → first_right asked page_run ≡ fence_up_to asked (slot_at w place)
      first_of_page h = first_of_lem w place page_count asked h

      count_some : 1 ≤ page_count
      count_some = counted g w i p above page_tests_lem.0

      pub page_first_broken : fence_up_to asked (slot_at w place) ≡ false → Broken (fault_in Writing i p 0) ≡ page_step g w asked i p
      unfolding page_step page_right walk_fault
      page_first_broken e = rw (formed, apart, page_run_lem, first_of_page count_some, e)

      module _ (first : fence_up_to asked (slot_at w place) ≡ true) where
        pub page_first : fence_kind (slot_at w place).kind ≡ true
        unfolding fence_up_to
        page_first = and_left (fence_kind (slot_at w place).kind) (not (before asked (slot_at w place).pair)) first

        pub page_some : 1 ≤ (page_scanned g w asked i p).reach
        unfolding fence_up_to
        page_some =
            let here : place + 3 * 0 ≡ place = omega arith in
            let f = not-true (before asked (slot_at w place).pair) (and_right (fence_kind (slot_at w place).kind) (not (before asked (slot_at w place).pair)) first) in
            rw page_reaches (reach_some w place page_count asked count_some (rw here f))

        pub page_tells : above_step w place ((page_scanned g w asked i p).reach - 1) asked ≡ page_step g w asked i p
        unfolding page_step page_right
        page_tells =
            rw (formed, apart, page_run_lem, first_of_page count_some, first)
            (above_tells w place page_count asked true (pages_of g w (suc i)) (page_scanned g w asked i p).reach page_tests_lem.1 page_tests_lem.2 page_reaches page_first page_some)

        pub page_within : StepWithin (pages_of g w (suc i)) (above_step w place ((page_scanned g w asked i p).reach - 1) asked)
        page_within =
            above_within w place page_count asked true (pages_of g w (suc i)) (page_scanned g w asked i p).reach page_tests_lem.1 page_tests_lem.2 page_reaches page_first page_some
