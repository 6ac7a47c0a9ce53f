-- The writing of a good state passes what put, drop and ask test: its directory, its head, and the page form of every page.
-- Assumes nothing.
use Rattle.std.specs.Prelude.{ℕ, suc, ◌-◌, ◌*◌, ◌≤◌, ◌<◌, min, ◌≡◌, ◌≢◌, Bool, ◌&&◌, ◌||◌, List, [], length, get_or, take, drop}
use Rattle.std.proofs.Common.{arith, sym, ◌∙◌, length-drop, drop-cons}
use Rattle.std.proofs.Math.Path.{refl, ap}
use Rattle.std.proofs.Math.Bool.{true, false}
use Rattle.std.proofs.Math.ListN.{length-take}
use Rattle.std.proofs.Math.Dec.{ltb, leb, eqb}
use borrow.Author.Tests.{le-leb, eq-eqb, ne_eqb, ltb-true, ltb-false, eqb-true, eqb-false}
use Rattle.laws.specs.Lists.{span, all, equal, all_three, all_at}
use Rattle.laws.specs.Flat.{equal_refl, all_take, all_drop}
use Rattle.geometry.specs.declared.Geometry.{Geometry}
use Rattle.geometry.specs.Geometry.{InRange, bottom, most, room}
use Rattle.geometry.specs.Places.{pages_word, head_count_word, head_room}
use Rattle.geometry.specs.Bounds.{capacity_zero}
use Rattle.slot.specs.declared.Slot.{Slot}
use Rattle.rules.specs.Tree.{level}
use Rattle.rules.specs.Level.{pages_for, page_of, weave, slots_of}
use Rattle.rules.specs.Merging.{State}
use Rattle.rules.specs.Sound.{head_slots, page_slots, entries_of, pages_right, directory_right, in_order, legal, fence_pages, first_is_least, head_right, count_right, page_formed, ascending, within_capacity}
use Rattle.geometry.specs.Directory.{pages_of, pages_none, pages_of_lem}
use Rattle.rules.specs.Good.{Good, Fits}
use Rattle.rules.specs.Reading.{Reads}
use Rattle.finding.specs.Rising.{rising_take, rising_drop, rising_order}
use Rattle.rules.specs.Pages.{pages_some, pages_inside}
use Rattle.rules.proofs.Woven.{entries_woven, fence_pages_woven}
use Rattle.finding.specs.Fences.{fences_over, pages_under, fences_only, fences_pages}
use Rattle.finding.specs.Rows.{Row, Rows, woven_legal, woven_rising, woven_first, least_fence_first, head_woven, lower_rows, row_below, some_slot, pages_at, pages_past}

or_true : (b : Bool) → (b || true) ≡ true
or_true true = refl
or_true false = refl

no_slots : pages_for 0 ≡ 1
unfolding pages_for
no_slots = refl

module _ (g : Geometry) (s : State) (w : List ℕ) (fit : InRange g) (good : Good g s) (fits : Fits g (slots_of s.tree))
    (reads : Reads g s.live (slots_of s.tree) w) where
  abbrev slots : List (List Slot)
  slots = slots_of s.tree

  -- The directory's page count of a level, also of one that does not exist.
  pub pages_told : (i : ℕ) → 1 ≤ i → pages_of g w i ≡ pages_under (drop i slots)
  pages_told i h = chosen (ltb i g.levels) refl
    where
      chosen : (b : Bool) → ltb i g.levels ≡ b → pages_of g w i ≡ pages_under (drop i slots)
      chosen true e =
          let b = ltb-true i g.levels e in
          reads.pages i h b ∙ sym (pages_at slots i (omega (arith, b, fits.levels)))
      chosen false e =
          let b = ltb-false i g.levels e in
          pages_none g w i b ∙ sym (pages_past slots i (omega (arith, b, fits.levels)))

  pub pages_below_lem : (i : ℕ) → 1 ≤ i → i < g.levels → 1 ≤ pages_of g w i
  pages_below_lem i h b = rw (reads.pages i h b) (pages_some (length (get_or slots i [])))

  -- The directory.
  count_right_lem : (i : ℕ) → 1 ≤ i → i ≤ 3 → pages_right g w i ≡ true
  unfolding pages_right
  count_right_lem i h m = chosen (ltb i g.levels) refl
    where
      chosen : (b : Bool) → ltb i g.levels ≡ b →
          elim b as (λ x. Bool) [ true ↦ leb 1 (get_or w (pages_word i) 0) && leb (get_or w (pages_word i) 0) (room g i) | false ↦ eqb (get_or w (pages_word i) 0) 0 ] ≡ true
      chosen true e =
          let b = ltb-true i g.levels e in
          rw (← pages_of_lem g w i b, le-leb 1 (pages_of g w i) (pages_below_lem i h b)) (le-leb (pages_of g w i) (room g i) (rw (reads.pages i h b) (fits.rooms i h b)))
      chosen false e = eq-eqb (get_or w (pages_word i) 0) 0 (reads.no_pages i (ltb-false i g.levels e) m)

  pub directory_right_lem : directory_right g w ≡ true
  unfolding directory_right
  directory_right_lem =
      rw (
        reads.live_pairs,
        le-leb s.live (most g) good.few,
        all_three (pages_right g w) 1 2 3,
        count_right_lem 1 (omega arith) (omega arith),
        count_right_lem 2 (omega arith) (omega arith),
        count_right_lem 3 (omega arith) (omega arith),
        reads.reserved,
      )

  -- The head: its entries woven over level 1.
  abbrev lower : List (List Slot)
  lower = drop 1 slots

  abbrev head_row : List Slot
  head_row = weave (level 0 s.tree) (fences_over lower)

  rows : Rows lower
  rows = lower_rows s.tree good.ascends

  pub head_read : head_slots g w ≡ head_row
  head_read = reads.head_slots_lem ∙ head_woven s.tree

  head_fits : leb (get_or w head_count_word 0) (head_room g) ≡ true
  head_fits = rw reads.head_count_lem (le-leb (length (get_or slots 0 [])) (head_room g) fits.head)

  head_below : ltb (length (entries_of head_row)) g.head ≡ true
  unfolding within_capacity
  head_below =
      rw (entries_woven (level 0 s.tree) (fences_over lower) (fences_only lower))
      (rw (ne_eqb 0 (bottom g) (λ e. omega (arith, e, fit.levels_least)), within_capacity, capacity_zero g) at (good.within 0 (omega (arith, fit.levels_least))))

  head_order : in_order head_row ≡ true
  head_order = rising_order 0 head_row (woven_rising (level 0 s.tree) lower top_ascends rows)
    where
      top_ascends : ascending (level 0 s.tree) ≡ true
      top_ascends = all_at ascending s.tree 0 [] good.ascends (omega (arith, good.levels, fit.levels_least))

  head_turns : equal (fence_pages head_row) (span (λ p. p) 0 (pages_under lower)) ≡ true
  head_turns =
      rw (fence_pages_woven (level 0 s.tree) (fences_over lower) (fences_only lower), fences_pages lower) (equal_refl (span (λ p. p) 0 (pages_under lower)))

  head_least : first_is_least head_row ≡ true
  head_least =
      rw (drop-cons slots 1 [] (omega (arith, fits.levels, fit.levels_least)), woven_first (level 0 s.tree) (get_or slots 1 []) (drop 2 slots)) (least_fence_first _)

  pub head_right_lem : head_right g w ≡ true
  unfolding head_right
  head_right_lem =
      rw (head_fits, head_read, head_below, head_order, pages_told 1 (omega arith), woven_legal (level 0 s.tree) lower, head_turns, head_least)

  -- A page of a lower level.
  module _ (i p : ℕ) (h : 1 ≤ i) (b : i < g.levels) (q : p < pages_of g w i) where
    abbrev row : List Slot
    row = get_or slots i []

    pub row_of : Row (pages_of g w (suc i)) row
    row_of = rw (pages_told (suc i) (omega arith)) (row_below slots i rows h (omega (arith, b, fits.levels)))

    inside : p < pages_for (length row)
    inside = rw (reads.pages i h b) at q

    page_read : page_slots g w i p ≡ page_of row p
    page_read = reads.page_slots_lem i p h b inside

    page_length : length (page_of row p) ≡ min 21 (length row - 21 * p)
    unfolding page_of
    page_length = length-take 21 (drop (21 * p) row) ∙ ap (min 21) (length-drop (21 * p) row)

    -- A page has a slot, but in a bottom that has none at all.
    empty_row_lem : length row ≤ 21 * p → length row ≡ 0
    empty_row_lem e = compared (eqb p 0) refl
      where
        compared : (x : Bool) → eqb p 0 ≡ x → length row ≡ 0
        compared true z = omega (arith, e, eqb-true p 0 z)
        compared false z = let n : p ≢ 0 = eqb-false p 0 z in absurd (omega (arith, e, pages_inside (length row) p (omega arith) inside))

    empty_bottom : length row ≡ 0 → i ≡ bottom g
    empty_bottom e = compared (ltb (suc i) g.levels) refl
      where
        compared : (x : Bool) → ltb (suc i) g.levels ≡ x → i ≡ bottom g
        compared true z =
            let c = ltb-true (suc i) g.levels z in
            absurd (omega (arith, e, some_slot row (row_of.first_least (pages_below_lem (suc i) (omega arith) c))))
        compared false z = omega (arith, b, ltb-false (suc i) g.levels z)

    page_count_lem : count_right g w i p ≡ true
    unfolding count_right
    page_count_lem =
        rw (reads.counts i p h b inside, le-leb (length (page_of row p)) 21 (omega (arith, page_length))) (chosen (ltb (21 * p) (length row)) refl)
      where
        chosen : (x : Bool) → ltb (21 * p) (length row) ≡ x → (leb 1 (length (page_of row p)) || (eqb i (bottom g) && eqb (pages_of g w i) 1)) ≡ true
        chosen true e = rw (le-leb 1 (length (page_of row p)) (omega (arith, page_length, ltb-true (21 * p) (length row) e)))
        chosen false e =
            let z = empty_row_lem (ltb-false (21 * p) (length row) e) in
            let one : pages_of g w i ≡ 1 = reads.pages i h b ∙ rw z no_slots in
            rw (eq-eqb i (bottom g) (empty_bottom z), one) (or_true (leb 1 (length (page_of row p))))

    page_order : in_order (page_of row p) ≡ true
    unfolding page_of
    page_order = rising_order 0 (take 21 (drop (21 * p) row)) (rising_take 21 0 (drop (21 * p) row) (rising_drop (21 * p) 0 row row_of.rising))

    page_tags : all (legal true (pages_of g w (suc i))) (page_of row p) ≡ true
    unfolding page_of
    page_tags =
        all_take (legal true (pages_of g w (suc i))) 21 (drop (21 * p) row) (all_drop (legal true (pages_of g w (suc i))) (21 * p) row row_of.tags)

    pub page_formed_lem : page_formed g w i p ≡ true
    unfolding page_formed
    page_formed_lem = rw (page_count_lem, page_read, page_order, page_tags)
