-- On a store that is laid out in slots, filling a level lays out its row made anew, and rebuilding the levels above refills them.
-- Assumes nothing.
use Prim.Native.Nat.{ℕ, zero, suc, ◌≤◌, ◌<◌}
use Rattle.std.proofs.Common.{arith, subst, ◌∙◌, drop_of_length-le, drop-cons, ltb-true, ltb-false}
use Rattle.std.specs.Prelude.{◌≡◌, Bool, true, false, length, drop, ltb}
use Rattle.std.proofs.Math.Path.{refl, sym, ap}
use mathlib.Core.List.{List, [], map}
use Rattle.std.proofs.Math.ListN.{get_or}
use Rattle.laws.specs.Lists.{length_span}
use Rattle.geometry.specs.declared.Geometry.{Geometry}
use Rattle.geometry.specs.Geometry.{InRange, room}
use Rattle.geometry.specs.Places.{head_room}
use Rattle.slot.specs.declared.Slot.{Slot}
use Rattle.rules.specs.Tree.{Level}
use Rattle.rules.specs.Level.{index, pages_for, fence_of, fences, first_among, weave, over, lay_on, laid, head_on}
use Rattle.rules.specs.Merging.{pages_written}
use Rattle.rules.specs.Store.{laid_out}
use Rattle.rules.specs.Sound.{first_at, level_laid}
use Rattle.geometry.specs.Directory.{pages_of, pages_none}
use Rattle.rules.specs.Good.{SlotsFit, Fits}
use Rattle.rules.specs.Reading.{Reads}
use Rattle.entries.specs.Levels.{PagesWithin}
use Rattle.stored.specs.Parts.{Parts, laid_parts}
use Rattle.stored.specs.Reading.{reads_back}
use Rattle.stored.specs.Over.{laid_bare, woven_over, laid_over_lem}
use Rattle.stored.specs.Replacing.{level_replaced, level_replaced_fits, head_replaced}
use Rattle.finding.specs.Fences.{fences_over}
use Rattle.finding.specs.Rows.{row_on, laid_row}
use Rattle.merge.specs.Filling.{level_put, head_put, filled, filled_pages, head_rebuilt, rebuilt, rebuilt_pages, Rebuildable}
use Rattle.merge.specs.Refilling.{with_row, refill, refill_row, written_none, written_next}

module _ (g : Geometry) (live : ℕ) (fit : InRange g) where
  module _ (ss : List (List Slot)) (fits : Fits g ss) where
    abbrev w : List ℕ
    w = laid_out g live ss

    reads : Reads g live ss w
    reads = reads_back g live ss fit fits

    parts : Parts g live ss w
    parts = laid_parts g live ss fit fits.head

    -- Its page counts are within the rooms.
    pages_laid : (i : ℕ) → 1 ≤ i → pages_of g w i ≤ room g i
    pages_laid i l = chosen (ltb i g.levels) refl
      where
        chosen : (b : Bool) → ltb i g.levels ≡ b → pages_of g w i ≤ room g i
        chosen true e = rw (reads.pages i l (ltb-true i g.levels e)) (fits.rooms i l (ltb-true i g.levels e))
        chosen false e = rw (pages_none g w i (ltb-false i g.levels e)) (omega arith)

    pub within_laid : PagesWithin g w
    within_laid = record { first = pages_laid 1 (omega arith); second = pages_laid 2 (omega arith); third = pages_laid 3 (omega arith) }

    -- The writing of entries over the pages below as they stand is their row over the levels below.
    row_bare : (es : Level) → map index es ≡ row_on es []
    unfolding laid lay_on
    row_bare es = ap (λ (l : List (List Slot)). get_or l 0 []) (laid_row es [])

    pub row_laid : (i : ℕ) (es : Level) → 1 ≤ i → i < g.levels → level_laid g w i es ≡ row_on es (drop (suc i) ss)
    unfolding row_on over fences_over
    row_laid i es l u = chosen (ltb (suc i) g.levels) refl
      where
        below : List Slot
        below = get_or ss (suc i) []

        chosen : (b : Bool) → ltb (suc i) g.levels ≡ b → level_laid g w i es ≡ row_on es (drop (suc i) ss)
        chosen true e =
            let v : suc i < g.levels = ltb-true (suc i) g.levels e in
            laid_over_lem g w i below parts.whole (omega (arith, v, fit.levels_most)) (reads.pages (suc i) (omega arith) v) (fits.rooms (suc i) (omega arith) v)
            (parts.levels (suc i) (omega arith) v) es v ∙
            ap (row_on es) (sym (drop-cons ss (suc i) [] (omega (arith, v, fits.levels))))
        chosen false e =
            let v : suc i ≡ g.levels = omega (arith, u, ltb-false (suc i) g.levels e) in
            laid_bare g w i es v ∙ row_bare es ∙ ap (row_on es) (sym (drop_of_length-le ss {i = suc i} (omega (arith, v, fits.levels))))

    pub filled_laid : (i : ℕ) (es : Level) → 1 ≤ i → i < g.levels → filled g i es w ≡ laid_out g live (with_row i es ss)
    unfolding filled level_put with_row
    filled_laid i es l u = rw (row_laid i es l u) (level_replaced g live ss fit fits i (row_on es (drop (suc i) ss)) l u)

    pub row_fits : (i : ℕ) (es : Level) → 1 ≤ i → i < g.levels → pages_for (length (row_on es (drop (suc i) ss))) ≤ room g i →
        SlotsFit (row_on es (drop (suc i) ss)) → Fits g (with_row i es ss)
    unfolding with_row
    row_fits i es l u few new = level_replaced_fits g ss i (row_on es (drop (suc i) ss)) fits l u few new

    pub head_laid_lem : head_rebuilt g w ≡ laid_out g live (refill 0 ss)
    unfolding head_rebuilt head_put refill weave over head_on fences head_room
    head_laid_lem = rw (woven, laid_head) (head_replaced g live ss fit fits (over [] below) few)
      where
        below : List Slot
        below = get_or ss 1 []

        one : 1 < g.levels
        one = omega (arith, fit.levels_least)

        woven : fences (first_at g w 1) (pages_of g w 1) ≡ over [] below
        woven = woven_over g w 0 below parts.whole (omega arith) (reads.pages 1 (omega arith) one) (fits.rooms 1 (omega arith) one) (parts.levels 1 (omega arith) one) []

        laid_head : head_on [] (drop 1 ss) ≡ over [] below
        laid_head = ap (head_on []) (drop-cons ss 1 [] (omega (arith, one, fits.levels)))

        few : length (over [] below) ≤ head_room g
        few = omega (arith, length_span (fence_of (first_among below)) 0 (pages_for (length below)), fits.rooms 1 (omega arith) one)

  -- Levels from i up rebuilt: what is asked of the words is so, their pages are those that a merge writes, and they are refilled.
  pub record Rebuilds (i : ℕ) (ss : List (List Slot)) : Type 0 where
    pub asked : Rebuildable g i (laid_out g live ss)
    pub words : rebuilt g i (laid_out g live ss) ≡ laid_out g live (refill i ss)
    pub pages : rebuilt_pages g i (laid_out g live ss) ≡ length (pages_written i (refill i ss))

  pub rebuilt_laid : (i : ℕ) (ss : List (List Slot)) → i < g.levels → Fits g ss → Fits g (refill i ss) → Rebuilds i ss
  unfolding Rebuildable rebuilt rebuilt_pages filled_pages refill
  rebuilt_laid zero ss u fits after = record { asked = within_laid ss fits; words = head_laid_lem ss fits; pages = sym (written_none (refill 0 ss)) }
  rebuilt_laid (suc i) ss u fits after = goes_on (rebuilt_laid i made (omega arith) fitting after)
    where
      made : List (List Slot)
      made = with_row (suc i) [] ss

      laid : level_laid g (laid_out g live ss) (suc i) [] ≡ row_on [] (drop (suc (suc i)) ss)
      laid = row_laid ss fits (suc i) [] (omega arith) u

      next : filled g (suc i) [] (laid_out g live ss) ≡ laid_out g live made
      next = filled_laid ss fits (suc i) [] (omega arith) u

      row : get_or (refill i made) (suc i) [] ≡ row_on [] (drop (suc (suc i)) ss)
      row = refill_row i ss (omega (arith, u, fits.levels))

      enough : pages_for (length (row_on [] (drop (suc (suc i)) ss))) ≤ room g (suc i)
      enough = subst (λ (s : List Slot). pages_for (length s) ≤ room g (suc i)) row (after.rooms (suc i) (omega arith) u)

      fitting : Fits g made
      fitting = row_fits ss fits (suc i) [] (omega arith) u enough (subst SlotsFit row (after.slots (suc i)))

      goes_on : Rebuilds i made → Rebuilds (suc i) ss
      goes_on rest = record {
        asked = (record { within = within_laid ss fits; enough = rw laid enough }, rw next rest.asked);
        words = rw next rest.words;
        pages = rw (next, laid, rest.pages) (sym (written_next i (refill (suc i) ss) ∙ rw row refl));
      }
