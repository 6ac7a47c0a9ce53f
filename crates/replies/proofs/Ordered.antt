-- Each call runs its tests in the paper's order: it does its work where every test passes, else it refuses with the number of the first that
-- fails. Assumes nothing.
use Prim.Native.Nat.{ℕ, zero, suc}
use Rattle.std.specs.Prelude.{◌≡◌, Bool, cond, get_or, ltb, leb, eqb}
use Rattle.std.proofs.Math.Path.{refl, sym, ap}
use Rattle.std.proofs.Common.{◌∙◌}
use Rattle.std.proofs.Math.Bool.{true, false, not}
use mathlib.Core.List.{List, [], ◌∷◌, ◌++◌}
use Rattle.std.proofs.lemmas.Bool.{not-true}
use Rattle.laws.specs.Lists.{all}
use Rattle.geometry.specs.declared.Geometry.{Geometry}
use Rattle.geometry.specs.Geometry.{bottom, most}
use Rattle.geometry.specs.Places.{live_word}
use Rattle.slot.specs.declared.Pair.{Pair}
use Rattle.rules.specs.Tree.{Entry}
use Rattle.rules.specs.Listing.{Listed, list}
use Rattle.fault.specs.declared.Fault.{Fault}
use Rattle.fault.specs.declared.Part.{Part}
use Rattle.fault.specs.declared.Part.TheVariants.{Directory, Head, Page, Writing, Kinds}
use Rattle.fault.specs.Numbers.{number_of, fault_in, no_place}
use Rattle.fault.specs.Judged.{Judged}
use Rattle.std.specs.Prelude.{Err, Ok}
use Rattle.rules.specs.Finding.{Told, decided, follow, nothing, tell}
use Rattle.rules.specs.Sound.{head_slots, page_slots, tree_of, directory_right, head_right, page_formed, page_right}
use Rattle.rules.specs.Faults.{unless, first_fault, head_fault, page_fault, walk_fault, form_faults, writing_faults, across_fault, fault}
use Rattle.rules.specs.Found.{only_one}
use Rattle.faults.specs.Pages.{forms_part}
use Rattle.faults.specs.Writing.{writings_part}
use Rattle.faults.specs.Kinds.{across_part}
use Rattle.geometry.specs.Directory.{geometry_of}
use Rattle.walk.specs.Walked.{Walked}
use Rattle.walk.specs.Stepping.{Step}
use Rattle.walk.specs.Stepping.{Decided, Follow, Nothing, Broken}
use Rattle.walk.specs.Step.{step_of, head_step, page_step}
use Rattle.walk.specs.Walk.{walk_on, walked, walk_broken}
use Rattle.change.specs.Change.{fills_head, Changed, changed_head, changed_tree, stayed, merged_change, change_of}
use Rattle.opening.specs.Reply.{replied, fault_number, Test, test, first_failing, by_first, numbered, first_of_both, first_among_lem, filled}
use Rattle.opening.specs.Opening.{open_tests, opening, both_tests, opening_both}
use Rattle.call_ask.specs.Ask.{walk_reply, ask_of, ask_refused_lem, ask_walked}
use Rattle.call_check.specs.Check.{judged_reply, check_of, check_refused_lem, check_tested}
use Rattle.call_check.specs.List.{tested_reply, list_of, list_refused_lem, list_tested}
use Rattle.call_format.specs.Format.{format_tests, format_after, format_of}
use Rattle.call_put.specs.Edit.{Kept, kept, zeros, faulty, changed_reply, put_found, drop_found, found_of, after_walk, edit_of, put_of, drop_of, edit_refused_lem, edit_walked}
use Rattle.replies.specs.Order.{fault_of, held_by, decider, whole_fault, below_most, some_live, walked_fault, pair_held, would_merge, merge_fault, faultless, whole_tests, page_tests, walk_tests, merge_tests, ask_tests, check_tests, list_tests, put_tests, drop_tests, put_fault, drop_fault, judged_values, fault_told, ask_done, ask_refused, check_done, check_refused, list_done, list_refused, format_done, format_refused, edit_done, edit_refused}
use Rattle.replies.specs.Ordered.{fault_refused, fault_told_lem, fault_untold, number_told, opens_both_first, opens_first, walk_first, walk_number, whole_number}

module _ (w : List ℕ) (f : Judged) (n : ℕ) where
  open_untold : opening w ≡ n → fault_told n f ≡ 0 ∷ 0 ∷ 0 ∷ []
  unfolding opening open_tests all
  open_untold e = fault_untold n f (rw e at (not-true (leb 10 (opening w)) (first_among_lem (λ m. not (leb 10 m)) (open_tests w) refl refl)))

  both_untold : (work : List ℕ) → opening_both w work ≡ n → fault_told n f ≡ 0 ∷ 0 ∷ 0 ∷ []
  unfolding opening_both both_tests open_tests all
  both_untold work e = fault_untold n f (rw e at (not-true (leb 10 (opening_both w work)) (first_among_lem (λ m. not (leb 10 m)) (both_tests w work) refl refl)))

-- The calls ----------------------------------------------------------------------------------------------------------------------------------
pub ask_in_order : (w : List ℕ) (p : Pair) → ask_of w p ≡ by_first (first_failing (ask_tests w p)) (ask_done w p) (ask_refused w p)
unfolding ask_tests ask_done ask_refused walked_fault pair_held
ask_in_order w p = by_opening (opening w) refl ∙ sym (opens_first w (walk_tests w p) (ask_done w p) (ask_refused w p))
  where
    by_walk : (x : Walked) →
        walk_reply x ≡
        by_first (number_told (fault_of x)) (record { number = 0; values = cond (held_by x) 1 0 ∷ decider x ∷ 0 ∷ [] })
        (λ n. record { number = n; values = fault_told n (fault_of x) })
    by_walk (Ok f) = refl
    by_walk (Err f) =
        sym (fault_refused _ (λ n. record { number = n; values = fault_told n (Err f) }) f.part ∙ ap (λ (v : List ℕ). replied (fault_number f) v) (fault_told_lem f.part (Err f)))

    walks : walk_reply (walked (geometry_of w) w p) ≡ by_first (first_failing (walk_tests w p)) (ask_done w p) (ask_refused w p)
    walks = by_walk (walked (geometry_of w) w p) ∙ ap (λ (n : ℕ). by_first n (ask_done w p) (ask_refused w p)) (sym (walk_number w p))

    by_opening : (n : ℕ) → opening w ≡ n → ask_of w p ≡ by_first n (by_first (first_failing (walk_tests w p)) (ask_done w p) (ask_refused w p)) (ask_refused w p)
    by_opening zero e = sym (ask_walked w p e) ∙ walks
    by_opening (suc n) e = sym (ask_refused_lem w p n e) ∙ ap (λ v. record { number = suc n; values = v }) (sym (open_untold w (walked_fault w p) (suc n) e))

pub check_in_order : (w : List ℕ) → check_of w ≡ by_first (first_failing (check_tests w)) check_done (check_refused w)
unfolding check_tests check_done check_refused whole_fault
check_in_order w = by_opening (opening w) refl ∙ sym (opens_first w (whole_tests w) check_done (check_refused w))
  where
    by_fault : (j : Judged) → judged_reply j ≡ by_first (number_told j) check_done (λ n. record { number = n; values = fault_told n j })
    by_fault (Ok tt) = refl
    by_fault (Err f) =
        sym (fault_refused check_done (λ n. record { number = n; values = fault_told n (Err f) }) f.part ∙ ap (λ (v : List ℕ). replied (fault_number f) v) (fault_told_lem f.part (Err f)))

    tested : judged_reply (whole_fault w) ≡ by_first (first_failing (whole_tests w)) check_done (check_refused w)
    tested = by_fault (whole_fault w) ∙ ap (λ (n : ℕ). by_first n check_done (check_refused w)) (sym (whole_number w))

    by_opening : (n : ℕ) → opening w ≡ n → check_of w ≡ by_first n (by_first (first_failing (whole_tests w)) check_done (check_refused w)) (check_refused w)
    by_opening zero e = sym (check_tested w e) ∙ tested
    by_opening (suc n) e = sym (check_refused_lem w n e) ∙ ap (λ v. record { number = suc n; values = v }) (sym (open_untold w (whole_fault w) (suc n) e))

pub list_in_order : (w : List ℕ) (first second : Pair) (slice : List ℕ) →
    list_of w first second slice ≡ by_first (first_failing (list_tests w)) (list_done w first second slice) (list_refused w slice)
unfolding list_tests list_done list_refused whole_fault
list_in_order w first second slice =
    by_opening (opening w) refl ∙ sym (opens_first w (whole_tests w) (list_done w first second slice) (list_refused w slice))
  where
    listed : Listed
    listed = list first second (tree_of (geometry_of w) w) slice

    by_fault : (j : Judged) → tested_reply j listed slice ≡ by_first (number_told j) (list_done w first second slice) (λ n. filled n (fault_told n j) slice)
    by_fault (Ok tt) = refl
    by_fault (Err f) =
        sym (fault_refused (list_done w first second slice) (λ n. filled n (fault_told n (Err f)) slice) f.part ∙ ap (λ (v : List ℕ). filled (fault_number f) v slice) (fault_told_lem f.part (Err f)))

    tested : tested_reply (whole_fault w) listed slice ≡ by_first (first_failing (whole_tests w)) (list_done w first second slice) (list_refused w slice)
    tested = by_fault (whole_fault w) ∙ ap (λ (n : ℕ). by_first n (list_done w first second slice) (list_refused w slice)) (sym (whole_number w))

    by_opening : (n : ℕ) → opening w ≡ n →
        list_of w first second slice ≡ by_first n (by_first (first_failing (whole_tests w)) (list_done w first second slice) (list_refused w slice)) (list_refused w slice)
    by_opening zero e = sym (list_tested w first second slice e) ∙ tested
    by_opening (suc n) e = sym (list_refused_lem w first second slice n e) ∙ ap (λ v. filled (suc n) v slice) (sym (open_untold w (whole_fault w) (suc n) e))

module _ (w work : List ℕ) where
  abbrev change_done : Changed → Kept
  change_done c = kept 0 c.values c.store c.work

  -- A fault is refused with every word kept, wherever in the order it is told.
  fault_keeps : (done : Kept) (f : Fault) → kept (fault_number f) (faulty f) w work ≡ by_first (fault_number f) done (edit_refused w work (Err f))
  unfolding edit_refused
  fault_keeps done f =
      sym (fault_refused done (edit_refused w work (Err f)) f.part ∙ ap (λ (v : List ℕ). kept (fault_number f) (v ++ 0 ∷ 0 ∷ 0 ∷ 0 ∷ []) w work) (fault_told_lem f.part (Err f)))

  walk_refused : (done : Kept) (n : ℕ) (f : Fault) →
      kept (fault_number f) (faulty f) w work ≡ by_first (by_first (fault_number f) n (λ m. m)) done (edit_refused w work (Err f))
  walk_refused done n f = fault_keeps done f ∙ ap (λ (m : ℕ). by_first m done (edit_refused w work (Err f))) (sym (fault_refused n (λ m. m) f.part))

  -- A change of the head, with the late tests before a merge.
  abbrev merge_fault_by : Bool → Judged
  merge_fault_by own = elim (fills_head (geometry_of w) w own) [ true ↦ whole_fault w | false ↦ (Ok tt) ]

  abbrev merge_tests_by : Bool → List Test
  merge_tests_by own = elim (fills_head (geometry_of w) w own) [ true ↦ whole_tests w | false ↦ [] ]

  change_in_order : (e : Entry) (own : Bool) →
      changed_reply (change_of (geometry_of w) e own w work) ≡
      by_first (first_failing (merge_tests_by own)) (change_done (change_of (geometry_of w) e own w work)) (edit_refused w work (merge_fault_by own))
  unfolding change_of merged_change changed_head changed_tree stayed first_failing whole_fault
  change_in_order e own = by (fills_head (geometry_of w) w own) (fault (geometry_of w) w) (whole_number w)
    where
      merged : Judged → Changed
      merged j = elim j [ (Ok tt) ↦ changed_tree (geometry_of w) e w work | Err f ↦ stayed f w work ]

      changed : Bool → Judged → Changed
      changed b j = elim b [ true ↦ merged j | false ↦ changed_head (geometry_of w) e own w work ]

      tests : Bool → List Test
      tests b = elim b [ true ↦ whole_tests w | false ↦ [] ]

      found : Bool → Judged → Judged
      found b j = elim b [ true ↦ j | false ↦ (Ok tt) ]

      by : (b : Bool) (j : Judged) → first_failing (whole_tests w) ≡ number_told j →
          changed_reply (changed b j) ≡ by_first (first_failing (tests b)) (change_done (changed b j)) (edit_refused w work (found b j))
      by true (Ok tt) e = rw e
      by true (Err f) e = rw e (fault_keeps (change_done (stayed f w work)) f)
      by false j e = refl

  module _ (p : Pair) where
    -- Put and drop, by what the walk gave.
    put_by_walk : (x : Walked) →
        after_walk w work x (found_of w work true p) ≡
        by_first (by_first (number_told (fault_of x)) (first_failing (test (not (held_by x)) 2 ∷ test (below_most w) 4 ∷ merge_tests_by (eqb (decider x) 0))) (λ n. n))
        (change_done (change_of (geometry_of w) (record { pair = p; normal = true }) (eqb (decider x) 0) w work))
        (edit_refused w work (first_fault (fault_of x ∷ merge_fault_by (eqb (decider x) 0) ∷ [])))
    unfolding found_of put_found below_most first_fault first_failing edit_refused fault_told
    put_by_walk (Err f) = walk_refused (change_done (change_of (geometry_of w) (record { pair = p; normal = true }) (eqb 0 0) w work)) _ f
    put_by_walk (Ok f) = by_held f.held
      where
        changed : Changed
        changed = change_of (geometry_of w) (record { pair = p; normal = true }) (eqb f.level 0) w work

        merging : Judged
        merging = merge_fault_by (eqb f.level 0)

        by : (b : Bool) → changed_reply changed ≡ by_first (first_failing (merge_tests_by (eqb f.level 0))) (change_done changed) (edit_refused w work merging) →
            elim b as (λ _. Kept) [ true ↦ changed_reply changed | false ↦ kept 4 zeros w work ] ≡
            by_first (first_failing (test b 4 ∷ merge_tests_by (eqb f.level 0))) (change_done changed) (edit_refused w work (first_fault (merging ∷ [])))
        by true h = rw (only_one merging) h
        by false h = refl

        by_held : (held : Bool) →
            put_found w work p held f.level ≡
            by_first (first_failing (test (not held) 2 ∷ test (below_most w) 4 ∷ merge_tests_by (eqb f.level 0))) (change_done changed)
            (edit_refused w work (first_fault (merging ∷ [])))
        by_held true = refl
        by_held false = by (ltb (get_or w live_word 0) (most (geometry_of w))) (change_in_order (record { pair = p; normal = true }) (eqb f.level 0))

    drop_by_walk : (x : Walked) →
        after_walk w work x (found_of w work false p) ≡
        by_first (by_first (number_told (fault_of x)) (first_failing (test (held_by x) 3 ∷ test (some_live w) 14 ∷ merge_tests_by (eqb (decider x) 0))) (λ n. n))
        (change_done (change_of (geometry_of w) (record { pair = p; normal = false }) (eqb (decider x) 0) w work))
        (edit_refused w work (first_fault (fault_of x ∷ unless (some_live w) (no_place Kinds) ∷ merge_fault_by (eqb (decider x) 0) ∷ [])))
    unfolding found_of drop_found some_live first_fault first_failing edit_refused fault_told
    drop_by_walk (Err f) = walk_refused (change_done (change_of (geometry_of w) (record { pair = p; normal = false }) (eqb 0 0) w work)) _ f
    drop_by_walk (Ok f) = by_held f.held
      where
        changed : Changed
        changed = change_of (geometry_of w) (record { pair = p; normal = false }) (eqb f.level 0) w work

        merging : Judged
        merging = merge_fault_by (eqb f.level 0)

        by : (b : Bool) → changed_reply changed ≡ by_first (first_failing (merge_tests_by (eqb f.level 0))) (change_done changed) (edit_refused w work merging) →
            elim b as (λ _. Kept) [ true ↦ changed_reply changed | false ↦ kept (fault_number (no_place Kinds)) (faulty (no_place Kinds)) w work ] ≡
            by_first (first_failing (test b 14 ∷ merge_tests_by (eqb f.level 0))) (change_done changed) (edit_refused w work (first_fault (unless b (no_place Kinds) ∷ merging ∷ [])))
        by true h = rw (only_one merging) h
        by false h = refl

        by_held : (held : Bool) →
            drop_found w work p held f.level ≡
            by_first (first_failing (test held 3 ∷ test (some_live w) 14 ∷ merge_tests_by (eqb f.level 0))) (change_done changed)
            (edit_refused w work (first_fault (unless (some_live w) (no_place Kinds) ∷ merging ∷ [])))
        by_held false = refl
        by_held true = by (ltb 0 (get_or w live_word 0)) (change_in_order (record { pair = p; normal = false }) (eqb f.level 0))

    -- The opening tests come before them.
    opens_then : (normal : Bool) (f : Judged) (done : Kept) (later : List Test) →
        after_walk w work (walked (geometry_of w) w p) (found_of w work normal p) ≡ by_first (first_failing later) done (edit_refused w work f) →
        edit_of w work normal p ≡ by_first (first_failing (both_tests w work ++ later)) done (edit_refused w work f)
    unfolding edit_refused
    opens_then normal f done later h = by (opening_both w work) refl ∙ sym (opens_both_first w later done (edit_refused w work f) work)
      where
        by : (n : ℕ) → opening_both w work ≡ n → edit_of w work normal p ≡ by_first n (by_first (first_failing later) done (edit_refused w work f)) (edit_refused w work f)
        by zero e = sym (edit_walked w work normal p e) ∙ h
        by (suc n) e = sym (edit_refused_lem w work normal p n e) ∙ ap (λ v. kept (suc n) (v ++ 0 ∷ 0 ∷ 0 ∷ 0 ∷ []) w work) (sym (both_untold w f (suc n) work e))

    pub put_in_order : put_of w work p ≡ by_first (first_failing (put_tests w work p)) (edit_done w work true p) (edit_refused w work (put_fault w p))
    unfolding put_tests put_fault edit_done pair_held would_merge merge_tests merge_fault walked_fault
    put_in_order =
        opens_then true (put_fault w p) (edit_done w work true p) _
        (put_by_walk (walked (geometry_of w) w p) ∙ ap (λ (n : ℕ). by_first n (edit_done w work true p) (edit_refused w work (put_fault w p))) (sym (walk_first w p _)))

    pub drop_in_order : drop_of w work p ≡ by_first (first_failing (drop_tests w work p)) (edit_done w work false p) (edit_refused w work (drop_fault w p))
    unfolding drop_tests drop_fault edit_done pair_held would_merge merge_tests merge_fault walked_fault
    drop_in_order =
        opens_then false (drop_fault w p) (edit_done w work false p) _
        (drop_by_walk (walked (geometry_of w) w p) ∙ ap (λ (n : ℕ). by_first n (edit_done w work false p) (edit_refused w work (drop_fault w p))) (sym (walk_first w p _)))
