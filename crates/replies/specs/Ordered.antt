-- Each call runs its tests in the paper's order: it does its work where every test passes, else it refuses with the number of the first that
-- fails. Assumes nothing.
use Prim.Native.Nat.{ℕ, zero, suc}
use Rattle.std.specs.Prelude.{◌≡◌, Bool, cond, get_or, ltb, leb, eqb}
use Rattle.std.proofs.Math.Path.{refl, sym, ap}
use Rattle.std.proofs.Common.{◌∙◌}
use Rattle.std.proofs.Math.Bool.{true, false, not}
use mathlib.Core.List.{List, [], ◌∷◌, ◌++◌}
use Rattle.std.proofs.lemmas.Bool.{not-true}
use Rattle.laws.specs.Lists.{all}
use Rattle.geometry.specs.declared.Geometry.{Geometry}
use Rattle.geometry.specs.Geometry.{bottom, most}
use Rattle.geometry.specs.Places.{live_word}
use Rattle.slot.specs.declared.Pair.{Pair}
use Rattle.rules.specs.Tree.{Entry}
use Rattle.rules.specs.Listing.{Listed, list}
use Rattle.fault.specs.declared.Fault.{Fault}
use Rattle.fault.specs.declared.Part.{Part}
use Rattle.fault.specs.declared.Part.TheVariants.{Directory, Head, Page, Writing, Kinds}
use Rattle.fault.specs.Numbers.{number_of, fault_in, no_place}
use Rattle.fault.specs.Judged.{Judged}
use Rattle.std.specs.Prelude.{Err, Ok}
use Rattle.rules.specs.Finding.{Told, decided, follow, nothing, tell}
use Rattle.rules.specs.Sound.{head_slots, page_slots, tree_of, directory_right, head_right, page_formed, page_right}
use Rattle.rules.specs.Faults.{unless, first_fault, head_fault, page_fault, walk_fault, form_faults, writing_faults, across_fault, fault}
use Rattle.rules.specs.Found.{only_one}
use Rattle.faults.specs.Pages.{forms_part}
use Rattle.faults.specs.Writing.{writings_part}
use Rattle.faults.specs.Kinds.{across_part}
use Rattle.geometry.specs.Directory.{geometry_of}
use Rattle.walk.specs.Walked.{Walked}
use Rattle.walk.specs.Stepping.{Step}
use Rattle.walk.specs.Stepping.{Decided, Follow, Nothing, Broken}
use Rattle.walk.specs.Step.{step_of, head_step, page_step}
use Rattle.walk.specs.Walk.{walk_on, walked, walk_broken}
use Rattle.change.specs.Change.{fills_head, Changed, changed_head, changed_tree, stayed, merged_change, change_of}
use Rattle.opening.specs.Reply.{replied, fault_number, Test, test, first_failing, by_first, numbered, first_of_both, first_among_lem, filled}
use Rattle.opening.specs.Opening.{open_tests, opening, both_tests, opening_both}
use Rattle.call_ask.specs.Ask.{walk_reply, ask_of, ask_refused_lem, ask_walked}
use Rattle.call_check.specs.Check.{judged_reply, check_of, check_refused_lem, check_tested}
use Rattle.call_check.specs.List.{tested_reply, list_of, list_refused_lem, list_tested}
use Rattle.call_format.specs.Format.{format_tests, format_after, format_of}
use Rattle.call_put.specs.Edit.{Kept, kept, zeros, faulty, changed_reply, put_found, drop_found, found_of, after_walk, edit_of, put_of, drop_of, edit_refused_lem, edit_walked}
use Rattle.replies.specs.Order.{fault_of, held_by, decider, whole_fault, below_most, some_live, walked_fault, pair_held, would_merge, merge_fault, faultless, whole_tests, page_tests, walk_tests, merge_tests, ask_tests, check_tests, list_tests, put_tests, drop_tests, put_fault, drop_fault, judged_values, fault_told, ask_done, ask_refused, check_done, check_refused, list_done, list_refused, format_done, format_refused, edit_done, edit_refused}

-- Only numbers from 10 on tell a fault --------------------------------------------------------------------------------------------------------
pub fault_untold : (n : ℕ) (f : Judged) → leb 10 n ≡ false → fault_told n f ≡ 0 ∷ 0 ∷ 0 ∷ []
unfolding fault_told
fault_untold n f e = rw (e, fault_told)

-- The opening tests come before all others.
module _ {A : Type 0} (w : List ℕ) (later : List Test) (done : A) (refused : ℕ → A) where
  by_both : (a b : ℕ) → by_first (by_first a b (λ n. n)) done refused ≡ by_first a (by_first b done refused) refused
  by_both zero b = refl
  by_both (suc a) b = refl

  pub opens_first : by_first (first_failing (open_tests w ++ later)) done refused ≡ by_first (opening w) (by_first (first_failing later) done refused) refused
  unfolding opening open_tests all
  opens_first = rw (first_of_both (open_tests w) later refl) (by_both (opening w) (first_failing later))

  pub opens_both_first : (work : List ℕ) →
      by_first (first_failing (both_tests w work ++ later)) done refused ≡ by_first (opening_both w work) (by_first (first_failing later) done refused) refused
  unfolding opening_both both_tests open_tests all
  opens_both_first work = rw (first_of_both (both_tests w work) later refl) (by_both (opening_both w work) (first_failing later))

-- A fault is refused with its number, and with its place ------------------------------------------------------------------------------------
abbrev pub number_told : Judged → ℕ
number_told (Ok tt) = 0
number_told (Err f) = fault_number f

module _ {A : Type 0} (done : A) (refused : ℕ → A) where
  pub fault_refused : (part : Part) → by_first (number_of part) done refused ≡ refused (number_of part)
  fault_refused Directory = refl
  fault_refused Head = refl
  fault_refused Page = refl
  fault_refused Writing = refl
  fault_refused Kinds = refl

pub fault_told_lem : (part : Part) (j : Judged) → fault_told (number_of part) j ≡ judged_values j
unfolding fault_told
fault_told_lem Directory j = refl
fault_told_lem Head j = refl
fault_told_lem Page j = refl
fault_told_lem Writing j = refl
fault_told_lem Kinds j = refl

-- The first of the whole store's tests that fails is the one whose fault is told.
pub whole_number : (w : List ℕ) → first_failing (whole_tests w) ≡ number_told (whole_fault w)
unfolding whole_tests whole_fault fault first_fault first_failing head_fault
whole_number w = by (directory_right g w) (head_right g w) (form_faults g w) (forms_part g w) (writing_faults g w) (writings_part g w) (across_fault g w) (across_part g w)
  where
    g : Geometry
    g = geometry_of w

    by : (directory head : Bool) (forms : Judged) → ((f : Fault) → forms ≡ Err f → f.part ≡ Page) → (writings : Judged) → ((f : Fault) → writings ≡ Err f → f.part ≡ Writing) →
        (across : Judged) → ((f : Fault) → across ≡ Err f → f.part ≡ Kinds) →
        first_failing (test directory 10 ∷ test head 11 ∷ test (faultless forms) 12 ∷ test (faultless writings) 13 ∷ test (faultless across) 14 ∷ []) ≡
        number_told (first_fault (unless directory (no_place Directory) ∷ unless head (head_fault g w) ∷ forms ∷ writings ∷ across ∷ []))
    by false head forms a writings b across c = refl
    by true false forms a writings b across c = refl
    by true true (Err f) a writings b across c = rw (a f refl)
    by true true (Ok tt) a (Err f) b across c = rw (b f refl)
    by true true (Ok fine) a (Ok right) b (Err f) c = rw (c f refl)
    by true true (Ok fine) a (Ok right) b (Ok whole) c = refl

-- So with the tests of a walk: what a page tells by its two tests.
module _ (g : Geometry) (w : List ℕ) (p : Pair) (i q : ℕ) where
  page_right_lem : page_right g w p i q ≡ true → page_step g w p i q ≡ step_of (tell p (page_slots g w i q))
  unfolding page_step
  page_right_lem e = rw e

  page_first : page_formed g w i q ≡ true → page_right g w p i q ≡ false → page_step g w p i q ≡ Broken (fault_in Writing i q 0)
  unfolding page_step walk_fault
  page_first e h = rw (h, e)

  page_form : page_formed g w i q ≡ false → page_step g w p i q ≡ Broken (page_fault g w i q)
  unfolding page_step page_right walk_fault
  page_form e = rw e

module _ (g : Geometry) (w : List ℕ) (p : Pair) where
  broken_number : (n i : ℕ) (f : Fault) → number_told (fault_of (walk_on g w p n i (Broken f))) ≡ fault_number f
  broken_number n i f = ap (λ (x : Walked). number_told (fault_of x)) (walk_broken g w p n i f)

  page_number : (n i : ℕ) (t : Told) → first_failing (page_tests g w p n i (step_of t)) ≡ number_told (fault_of (walk_on g w p n i (step_of t)))
  unfolding page_tests walk_on first_failing page_fault
  page_number zero i (decided held) = refl
  page_number zero i (follow page) = refl
  page_number zero i nothing = refl
  page_number (suc n) i (decided held) = refl
  page_number (suc n) i nothing = refl
  page_number (suc n) i (follow page) = by (page_formed g w (suc i) page) refl (page_right g w p (suc i) page) refl (λ t. page_number n (suc i) t)
    where
      by : (b : Bool) → page_formed g w (suc i) page ≡ b → (c : Bool) → page_right g w p (suc i) page ≡ c →
          ((t : Told) → first_failing (page_tests g w p n (suc i) (step_of t)) ≡ number_told (fault_of (walk_on g w p n (suc i) (step_of t)))) →
          first_failing (test b 12 ∷ test c 13 ∷ page_tests g w p n (suc i) (page_step g w p (suc i) page)) ≡ number_told (fault_of (walk_on g w p n (suc i) (page_step g w p (suc i) page)))
      by true e true h ih = rw (page_right_lem g w p (suc i) page h) (ih (tell p (page_slots g w (suc i) page)))
      by true e false h ih = rw (page_first g w p (suc i) page e h) (sym (broken_number n (suc i) (fault_in Writing (suc i) page 0)))
      by false e c h ih = rw (page_form g w p (suc i) page e) (sym (broken_number n (suc i) (page_fault g w (suc i) page)))

pub walk_number : (w : List ℕ) (p : Pair) → first_failing (walk_tests w p) ≡ number_told (walked_fault w p)
unfolding walk_tests walked_fault walked head_step first_failing head_fault
walk_number w p = by (directory_right g w) (head_right g w)
  where
    g : Geometry
    g = geometry_of w

    by : (b c : Bool) →
        first_failing (test b 10 ∷ test c 11 ∷ page_tests g w p (bottom g) 0 (cond c (step_of (tell p (head_slots g w))) (Broken (head_fault g w)))) ≡
        number_told (fault_of (cond b (walk_on g w p (bottom g) 0 (cond c (step_of (tell p (head_slots g w))) (Broken (head_fault g w)))) (Err (no_place Directory))))
    by false c = refl
    by true false = ap (λ (x : Walked). number_told (fault_of x)) (sym (walk_broken g w p (bottom g) 0 (head_fault g w)))
    by true true = page_number g w p (bottom g) 0 (tell p (head_slots g w))

-- Each of a walk's tests has a number.
pages_numbered : (g : Geometry) (w : List ℕ) (p : Pair) (n i : ℕ) (s : Step) → all numbered (page_tests g w p n i s) ≡ true
unfolding page_tests all
pages_numbered g w p zero i s = refl
pages_numbered g w p (suc n) i (Decided held) = refl
pages_numbered g w p (suc n) i (Follow page) = pages_numbered g w p n (suc i) (page_step g w p (suc i) page.0)
pages_numbered g w p (suc n) i Nothing = refl
pages_numbered g w p (suc n) i (Broken f) = refl

walk_numbered : (w : List ℕ) (p : Pair) → all numbered (walk_tests w p) ≡ true
unfolding walk_tests all
walk_numbered w p = pages_numbered (geometry_of w) w p (bottom (geometry_of w)) 0 (head_step (geometry_of w) w p)

pub walk_first : (w : List ℕ) (p : Pair) (later : List Test) → first_failing (walk_tests w p ++ later) ≡ by_first (number_told (walked_fault w p)) (first_failing later) (λ n. n)
walk_first w p later = first_of_both (walk_tests w p) later (walk_numbered w p) ∙ ap (λ (n : ℕ). by_first n (first_failing later) (λ m. m)) (walk_number w p)

pub format_in_order : (w : List ℕ) (g : Geometry) → format_of w g ≡ by_first (first_failing (format_tests w g)) (format_done g) (format_refused w)
unfolding format_of format_done format_refused
format_in_order w g = by (first_failing (format_tests w g))
  where
    by : (n : ℕ) → format_after n w g ≡ by_first n (format_done g) (format_refused w)
    by zero = refl
    by (suc n) = refl
