-- On the writing of a good state the walk of ask finds no fault and what the tree holds, and reads the pages of the walk on slots. Assumes nothing.
use Rattle.std.specs.Prelude.{ℕ, suc, ◌+◌, ◌≤◌, ◌<◌, ◌≡◌, Bool, false, ◌||◌, length, get_or, ltb, eqb}
use Rattle.std.proofs.Common.{add-zero, add-one, arith, ◌∙◌, length-drop, drop-drop, get_or-drop, eq-eqb, ne_eqb, ltb-true, ltb-false}
use Rattle.std.proofs.Math.Path.{refl, sym, ap}
use Rattle.std.proofs.Math.Bool.{true}
use mathlib.Core.List.{List, [], ◌∷◌}
use Rattle.std.proofs.Math.ListN.{drop}
use Rattle.std.proofs.Math.Seq.{drop-cons}
use Rattle.laws.specs.Lists.{all, all_at}
use Rattle.laws.specs.Flat.{all_first, all_rest, all_drop}
use Rattle.geometry.specs.declared.Geometry.{Geometry}
use Rattle.geometry.specs.Geometry.{InRange, bottom}
use Rattle.slot.specs.declared.Pair.{Pair}
use Rattle.slot.specs.declared.Slot.{Slot}
use Rattle.rules.specs.Tree.{Level, Tree, level}
use Rattle.rules.specs.Level.{pages_for, page_of, first_among, laid, slots_of}
use Rattle.rules.specs.Finding.{Met, absent, met, find, held, Told, tell, walk, ask}
use Rattle.rules.specs.Merging.{State}
use Rattle.rules.specs.Sound.{head_slots, ascending, page_right, first_right}
use Rattle.geometry.specs.Directory.{pages_of}
use Rattle.rules.specs.Good.{Good, Fits}
use Rattle.rules.specs.Reading.{Reads}
use Rattle.walk.specs.Walked.{found}
use Rattle.walk.specs.Step.{step_of, head_step, page_step}
use Rattle.walk.specs.Walk.{walk_on, walked}
use Rattle.walk.specs.Trail.{page_line, lines_on, trail, line_pages, pages_below}
use Rattle.entries.specs.Ascending.{held_met, held_absent}
use Rattle.finding.specs.Rows.{row_on, laid_row, lower_laid}
use Rattle.finding.specs.RowTold.{Leads}
use Rattle.finding.specs.PageTold.{page_first}
use Rattle.finding.specs.Asked.{deciding, decider, deciding_met, deciding_absent, Tells, led, page_below, head_tells, page_led, tells_met, tells_nothing, tells_page, walk_met, walk_ends, walk_goes_on}
use Rattle.finding.specs.Formed.{directory_right_lem, head_right_lem, head_read, page_formed_lem, row_of, pages_below_lem}

module _ (g : Geometry) (s : State) (w : List ℕ) (fit : InRange g) (good : Good g s) (fits : Fits g (slots_of s.tree))
    (reads : Reads g s.live (slots_of s.tree) w) (p : Pair) where
  abbrev slots : List (List Slot)
  slots = slots_of s.tree

  -- A page that the fences above lead to passes its tests.
  module _ (i : ℕ) (h : 1 ≤ i) (b : i < g.levels) (row : List Slot) (is : get_or slots i [] ≡ row) (told : Told)
      (to : Leads p (first_among row) (pages_for (length row)) told) where
    within_row : to.page < pages_for (length (get_or slots i []))
    within_row = rw is to.within

    within_level : to.page < pages_of g w i
    within_level = rw (reads.pages i h b) within_row

    first_right_lem : (eqb i (bottom g) || first_right p (page_of row to.page)) ≡ true
    first_right_lem = compared (ltb (suc i) g.levels) refl
      where
        compared : (x : Bool) → ltb (suc i) g.levels ≡ x → (eqb i (bottom g) || first_right p (page_of row to.page)) ≡ true
        compared true e =
            let c = ltb-true (suc i) g.levels e in
            let some = pages_below_lem g s w fit good fits reads (suc i) (omega arith) c in
            rw (ne_eqb i (bottom g) (λ z. omega (arith, c, z)))
            (page_first p (pages_of g w (suc i)) row (rw is at (row_of g s w fit good fits reads i to.page h b within_level)) told to some)
        compared false e = rw (eq-eqb i (bottom g) (omega (arith, b, ltb-false (suc i) g.levels e)))

    step_led : page_step g w p i to.page ≡ step_of (tell p (page_of row to.page))
    unfolding page_step page_right
    step_led = rw (page_formed_lem g s w fit good fits reads i to.page h b within_level, reads.page_slots_lem i to.page h b within_row, is, first_right_lem)

  -- From a run of level i on, with the levels of t below it: what is found, and the pages read.
  abbrev WalksOn : Tree → ℕ → List Slot → Level → ℕ → Type 0
  WalksOn t i run es n =
      (walk_on g w p n i (step_of (tell p run)) ≡ found (held p (es ∷ t)) (deciding p i (es ∷ t))) ×
      (line_pages (lines_on g w p n i (step_of (tell p run))) ≡ (walk p i run (laid t)).read)

  walk_words : (t : Tree) (i : ℕ) (run : List Slot) (es : Level) → suc i + length t ≡ g.levels → drop (suc i) slots ≡ laid t → all ascending t ≡ true →
      Tells p run es t → WalksOn t i run es (length t)
  unfolding walk_on lines_on page_line line_pages held deciding laid
  walk_words [] i run es n d a e = by_entry (find p es) refl
    where
      by_entry : (m : Met) → find p es ≡ m → WalksOn [] i run es 0
      by_entry (met normal) f =
          let told = tells_met p run es [] normal f e in
          (rw (told, held_met p es [] normal f, deciding_met p i es [] normal f), rw (walk_met p i run [] normal told))
      by_entry absent f =
          let told = tells_nothing p run es f e in
          (rw (told, held_absent p es [] f, deciding_absent p i es [] f) (ap (found false) (omega (arith, n))), rw (walk_ends p i run told))
  walk_words (fs ∷ t) i run es n d a e =
      by_entry (find p es) refl
      (walk_words t (suc i) (page_of row (page_below p fs t)) fs (omega (arith, n)) rest_is lower (page_led p fs t (all_first ascending fs t a) lower))
    where
      lower : all ascending t ≡ true
      lower = all_rest ascending fs t a

      row : List Slot
      row = row_on fs (laid t)

      below : drop (suc i) slots ≡ row ∷ laid t
      below = d ∙ laid_row fs t

      row_is : get_or slots (suc i) [] ≡ row
      row_is = ap (λ (j : ℕ). get_or slots j []) (sym (add-zero (suc i))) ∙ sym (get_or-drop (suc i) slots 0 []) ∙ ap (λ (l : List (List Slot)). get_or l 0 []) below

      rest_is : drop (suc (suc i)) slots ≡ laid t
      rest_is = ap (λ (j : ℕ). drop j slots) (sym (add-one (suc i))) ∙ sym (drop-drop 1 (suc i) slots) ∙ ap (drop 1) below

      goes_on : page_step g w p (suc i) (page_below p fs t) ≡ step_of (tell p (page_of row (page_below p fs t)))
      goes_on = step_led (suc i) (omega arith) (omega (arith, n)) row row_is _ (led p fs t)

      by_entry : (m : Met) → find p es ≡ m → WalksOn t (suc i) (page_of row (page_below p fs t)) fs (length t) → WalksOn (fs ∷ t) i run es (suc (length t))
      by_entry (met normal) f ih =
          let told = tells_met p run es (fs ∷ t) normal f e in (
            rw (told, held_met p es (fs ∷ t) normal f, deciding_met p i es (fs ∷ t) normal f),
            rw (told, walk_met p i run (laid (fs ∷ t)) normal told),
          )
      by_entry absent f ih =
          let told = tells_page p run es fs t f e in (
            rw (told, walk_on, goes_on, held_absent p es (fs ∷ t) f, deciding_absent p i es (fs ∷ t) f) ih.0,
            rw (laid_row fs t, walk_goes_on p i run row (laid t) (page_below p fs t) told, told, lines_on, goes_on) (ap (λ ps. page_below p fs t ∷ ps) ih.1),
          )

  -- From the head on.
  module _ (some : 1 ≤ length s.tree) where
    abbrev top : Level
    top = level 0 s.tree

    abbrev below : Tree
    below = drop 1 s.tree

    walk_tree : WalksOn below 0 (head_slots g w) top (length below)
    walk_tree =
        walk_words below 0 (head_slots g w) top (omega (arith, some, good.levels, length-drop 1 s.tree)) (lower_laid s.tree)
        (all_drop ascending 1 s.tree good.ascends)
        (rw (head_read g s w fit good fits reads, lower_laid s.tree)
        (head_tells p top below (all_at ascending s.tree 0 [] good.ascends some) (all_drop ascending 1 s.tree good.ascends)))

  some_level : 1 ≤ length s.tree
  some_level = omega (arith, good.levels, fit.levels_least)

  depth : bottom g ≡ length (drop 1 s.tree)
  depth = omega (arith, good.levels, length-drop 1 s.tree)

  pub walked_finds : walked g w p ≡ found (held p s.tree) (decider p s.tree)
  unfolding walked head_step decider
  walked_finds =
      let whole : s.tree ≡ level 0 s.tree ∷ drop 1 s.tree = drop-cons s.tree 0 [] some_level in
      rw (directory_right_lem g s w fit good fits reads, head_right_lem g s w fit good fits reads, depth)
      ((walk_tree some_level).0 ∙ ap (λ (t : Tree). found (held p t) (deciding p 0 t)) (sym whole))

  -- The pages that its trail reads below the head are those of the walk on slots.
  pub walked_reads : pages_below (trail g w p) ≡ (ask p (slots_of s.tree)).read
  unfolding pages_below trail head_step ask
  walked_reads =
      let whole : slots ≡ head_slots g w ∷ laid (drop 1 s.tree) =
      drop-cons slots 0 [] (omega (arith, fits.levels, fit.levels_least)) ∙ rw (reads.head_slots_lem, lower_laid s.tree) in
      rw (head_right_lem g s w fit good fits reads, depth) ((walk_tree some_level).1 ∙ sym (rw whole))
