-- 13 in a level: the slot that is told is the first that is wrong. Assumes nothing.
use Prim.Native.Nat.{ℕ, suc, ◌+◌, ◌-◌, ◌*◌, ◌≤◌, ◌<◌, min}
use Rattle.std.proofs.Math.Nat.{zero-add}
use native.Mathlib.Omega.{arith}
use Rattle.std.specs.Prelude.{◌≡◌, Bool, ◌≢◌, List, drop, eqb}
use Rattle.std.proofs.Math.Path.{refl}
use Rattle.std.proofs.Common.{sym, ◌∙◌}
use Rattle.std.proofs.Math.Bool.{true, false, false≢true}
use Rattle.std.proofs.Math.ListN.{length, get_or, take, replicate, get_or-eq_default}
use Rattle.std.proofs.Math.Dec.{leb, ltb}
use borrow.Author.Tests.{leb-true, leb-false, ltb-true, ltb-false, lt-ltb, le-ltb, le-leb, eq-eqb}
use Rattle.laws.specs.Tests.{and_left}
use Rattle.laws.specs.Lists.{span, all}
use Rattle.laws.specs.Flat.{all_span, equal_refl, replicate_slice}
use Rattle.laws.specs.First.{before_first}
use Rattle.geometry.specs.declared.Geometry.{Geometry}
use Rattle.geometry.specs.Geometry.{InRange, bottom, capacity, most, room}
use Rattle.geometry.specs.Bounds.{capacity_least}
use Rattle.geometry.specs.Places.{level_start, page_place, store_words, slots_in_page, words_in_page, erased}
use Rattle.geometry.specs.Apart.{level_after, level_inside}
use Rattle.geometry.specs.Directory.{pages_of}
use Rattle.slot.specs.declared.Slot.{Slot}
use Rattle.rules.specs.Tree.{Level}
use Rattle.rules.specs.Level.{pages_for}
use Rattle.rules.specs.Store.{level_words}
use Rattle.rules.specs.Sound.{count_at, level_slots, entries_of, directory_right, count_right, page_formed, ascending, level_laid, within_capacity, level_sound}
use Rattle.rules.specs.Faults.{level_leaves, rising, entries_most, level_wrong, entry_places}
use Rattle.rules.specs.Directed.{pages_fit}
use Rattle.layout.specs.Pages.{level_page, level_pages, page_unused, level_page_length, level_words_lem, pages_apart}
use Rattle.faults.specs.Broken.{breaks_first, all_keep}
use Rattle.faults.specs.Places.{slot_numbered}
use Rattle.faults.specs.Standing.{entry_place, StandsAt, get_d_any, stands_at, Standing, level_stands}
use Rattle.faults.specs.Words.{SameBefore, same_before, leaving_differs, never_leaving, part_told}
use Rattle.faults.specs.Miswritten.{own_words, LevelBreaks}
use Rattle.faults.specs.Miswritten.LevelBreaks.{word_differs, entry_falls, entry_too_many, pages_uncounted}

module _ (g : Geometry) (w : List ℕ) (fit : InRange g) (whole : length w ≡ store_words g) (right : directory_right g w ≡ true)
    (i : ℕ) (below_head : 1 ≤ i) (exists : i < g.levels) (formed : (p : ℕ) → p < pages_of g w i → page_formed g w i p ≡ true) where
  abbrev es : Level
  es = entries_of (level_slots g w i)

  abbrev own : List Slot
  own = level_laid g w i es

  pages_few : pages_of g w i ≤ room g i
  pages_few = pages_fit g w right i below_head (omega (arith, fit.levels_most))

  standing : Standing (slot_numbered g w i) (slots_in_page * pages_of g w i) (entry_places g w i) es
  standing = level_stands g w i below_head

  abbrev entry : ℕ
  entry = min (rising es) (entries_most g i)

  abbrev end : ℕ
  end = slots_in_page * room g i

  abbrev place : ℕ
  place = get_or (entry_places g w i) entry end

  abbrev leaves : ℕ
  leaves = level_leaves g w i

  -- Its words are those of the store.
  inside : level_start g i + words_in_page * room g i ≤ length w
  inside = omega (arith, level_after g i, level_inside g i (omega (arith, fit.levels_most)))

  stands : end ≤ leaves → take (words_in_page * room g i) (drop (level_start g i) w) ≡ level_words own (room g i)
  unfolding level_leaves
  stands h =
      part_told w (level_start g i) (words_in_page * room g i) (level_words own (room g i)) inside (level_words_lem own (room g i))
      (never_leaving w (level_start g i) (room g i) (level_words own (room g i)) h)

  -- An entry that falls or is one too many stands in a page that is counted.
  found : place < end → entry < length es
  found h = chosen (ltb entry (length es)) refl
    where
      chosen : (b : Bool) → ltb entry (length es) ≡ b → entry < length es
      chosen true t = ltb-true _ _ t
      chosen false t =
          let past : place ≡ end = get_or-eq_default (entry_places g w i) end (omega (arith, standing.many, ltb-false entry (length es) t)) in
          absurd (omega arith)

  not_found : end ≤ place → length es ≤ entry
  not_found h = chosen (ltb entry (length es)) refl
    where
      chosen : (b : Bool) → ltb entry (length es) ≡ b → length es ≤ entry
      chosen true t = absurd (omega (arith, standing.below entry end (ltb-true entry (length es) t), pages_few))
      chosen false t = ltb-false _ _ t

  -- Where none falls, the entries ascend; where none is one too many, they are within the capacity.
  all_rise : length es ≤ rising es → ascending es ≡ true
  unfolding rising ascending
  all_rise h = all_keep ascending es refl h

  few_enough : length es ≤ entries_most g i → within_capacity g i (length es) ≡ true
  unfolding entries_most within_capacity
  few_enough h = chosen (eqb i (bottom g)) h
    where
      chosen : (b : Bool) → length es ≤ elim b as (λ _. ℕ) [ true ↦ most g | false ↦ capacity g i - 1 ] →
          elim b as (λ _. Bool) [ true ↦ leb (length es) (most g) | false ↦ ltb (length es) (capacity g i) ] ≡ true
      chosen true k = le-leb _ _ k
      chosen false k = lt-ltb (length es) (capacity g i) (omega (arith, capacity_least g fit i))

  -- A page that is counted is not unused in the writing: its count is in range.
  counted_written : end ≤ leaves → pages_of g w i ≤ pages_for (length own)
  unfolding page_formed count_right count_at page_place
  counted_written h = chosen (ltb (pages_for (length own)) (pages_of g w i)) refl
    where
      chosen : (b : Bool) → ltb (pages_for (length own)) (pages_of g w i) ≡ b → pages_of g w i ≤ pages_for (length own)
      chosen true t =
          let p = pages_for (length own) in
          let more : p < pages_of g w i = ltb-true _ _ t in
          let z : level_start g i + 64 * 0 ≡ level_start g i = omega arith in
          let y : 0 + room g i ≡ room g i = zero-add _ in
          let page : take 64 (drop (level_start g i + 64 * p) w) ≡ replicate 64 erased =
          pages_apart w (level_start g i) (level_page own) (level_page_length own) 0 (room g i) p (rw y inside) (rw z (stands h ∙ level_pages own (room g i))) (omega arith)
          (omega (arith, pages_few)) ∙
          page_unused own p (omega arith) in
          let count : get_or w (level_start g i + 64 * p) 0 ≡ erased = replicate_slice w (level_start g i + 64 * p) 64 erased (level_start g i + 64 * p) page (omega arith) (omega arith) in
          let few : get_or w (level_start g i + 64 * p) 0 ≤ slots_in_page = leb-true _ _ (and_left _ _ (and_left _ _ (and_left _ _ (formed p more)))) in
          absurd (omega arith)
      chosen false t = ltb-false _ _ t

  -- What levelWrong is: the leftmost of the three, or the first page past the count.
  leftmost : min leaves place < end → level_wrong g w i ≡ min leaves place
  unfolding level_wrong
  leftmost h = rw (lt-ltb (min leaves place) end h) refl

  past_count : end ≤ min leaves place → level_wrong g w i ≡ slots_in_page * pages_of g w i
  unfolding level_wrong
  past_count h = rw (le-ltb (min leaves place) end h) refl

  entry_breaks : place < end → place ≡ level_wrong g w i → LevelBreaks g w i (level_wrong g w i)
  unfolding entry_place rising
  entry_breaks h e = chosen (leb (rising es) (entries_most g i)) refl
    where
      here : entry < length es
      here = found h

      stood : StandsAt g w i es entry (level_wrong g w i)
      stood =
          stands_at g w i (slots_in_page * pages_of g w i) es entry (level_wrong g w i) standing here
          (get_d_any (entry_places g w i) entry 0 end (omega (arith, standing.many, here)) ∙ e)

      chosen : (b : Bool) → leb (rising es) (entries_most g i) ≡ b → LevelBreaks g w i (level_wrong g w i)
      chosen true t =
          let q : entry ≡ rising es = omega (arith, leb-true (rising es) (entries_most g i) t) in
          entry_falls (rising es) (rw q at stood) (breaks_first ascending es (omega (arith, q, here)))
      chosen false t =
          let q : entry ≡ entries_most g i = omega (arith, leb-false (rising es) (entries_most g i) t) in
          entry_too_many (rw q at stood)

  -- Where there is none of the three, only the page count is left to be wrong.
  only_count : level_sound g w i ≡ false → ascending es ≡ true → within_capacity g i (length es) ≡ true →
      take (words_in_page * room g i) (drop (level_start g i) w) ≡ level_words own (room g i) → pages_for (length own) ≢ pages_of g w i
  unfolding level_sound
  only_count wrong rise few words counted =
      let pages : all (page_formed g w i) (span (λ p. p) 0 (pages_of g w i)) ≡ true =
      all_span (page_formed g w i) (λ p. p) 0 (pages_of g w i) (λ p u. formed p (omega arith)) in
      false≢true (sym wrong ∙ rw (pages, rise, eq-eqb _ _ counted, words, equal_refl (level_words own (room g i)), few) refl)

  count_wrong : level_sound g w i ≡ false → end ≤ min leaves place → LevelBreaks g w i (level_wrong g w i)
  unfolding own_words level_leaves
  count_wrong wrong h =
      let words : end ≤ leaves = omega arith in
      let entries : length es ≤ entry = not_found (omega arith) in
      let rise : ascending es ≡ true = all_rise (omega arith) in
      let few : within_capacity g i (length es) ≡ true = few_enough (omega arith) in
      let other : pages_for (length own) ≢ pages_of g w i = only_count wrong rise few (stands words) in
      pages_uncounted (never_leaving w (level_start g i) (room g i) (level_words own (room g i)) words) rise few (omega (arith, counted_written words)) (past_count h)

  pub level_breaks : level_sound g w i ≡ false → LevelBreaks g w i (level_wrong g w i)
  unfolding own_words level_leaves
  level_breaks wrong = chosen (ltb (min leaves place) end) refl (leb leaves place) refl
    where
      chosen : (b : Bool) → ltb (min leaves place) end ≡ b → (c : Bool) → leb leaves place ≡ c → LevelBreaks g w i (level_wrong g w i)
      chosen true t true u =
          let first : min leaves place ≡ leaves = omega (arith, leb-true leaves place u) in
          let h : leaves < end = omega (arith, ltb-true (min leaves place) end t, first) in
          word_differs (rw (leftmost (ltb-true _ _ t) ∙ first) (leaving_differs w (level_start g i) (room g i) (level_words own (room g i)) h))
      chosen true t false u =
          let first : min leaves place ≡ place = omega (arith, leb-false leaves place u) in
          entry_breaks (omega (arith, ltb-true (min leaves place) end t, first)) (sym (leftmost (ltb-true _ _ t) ∙ first))
      chosen false t c u = count_wrong wrong (ltb-false _ _ t)

  -- Before the slot that is told nothing is wrong.
  entry_earlier : (m : ℕ) → m < length es → entry_place g w i m < level_wrong g w i → m < entry
  unfolding entry_place
  entry_earlier m u before = chosen (ltb m entry) refl (ltb (min leaves place) end) refl (ltb entry m) refl
    where
      chosen : (b : Bool) → ltb m entry ≡ b → (c : Bool) → ltb (min leaves place) end ≡ c → (d : Bool) → ltb entry m ≡ d → m < entry
      chosen true t c s d r = ltb-true _ _ t
      chosen false t true s true r =
          absurd (omega (arith, before, leftmost (ltb-true _ _ s), standing.rises entry m end 0 (ltb-true entry m r) u))
      chosen false t true s false r =
          let q : entry ≡ m = omega (arith, ltb-false m entry t, ltb-false entry m r) in
          let p : place ≡ get_or (entry_places g w i) m 0 = rw q (get_d_any (entry_places g w i) m end 0 (omega (arith, standing.many))) in
          absurd (omega (arith, before, leftmost (ltb-true _ _ s)))
      chosen false t false s d r = omega (arith, not_found (omega (arith, ltb-false (min leaves place) end s)))

  pub entries_before : (m : ℕ) → m < length es → entry_place g w i m < level_wrong g w i → (ascending (take (suc m) es) ≡ true) × (m < entries_most g i)
  unfolding rising
  entries_before m u before =
      let h = entry_earlier m u before in
      (before_first (λ k. ascending (take (suc k) es)) (length es) m (omega arith), omega arith)

  pub words_before : SameBefore w (level_start g i) slots_in_page (room g i) (own_words g w i) (level_wrong g w i)
  unfolding own_words level_leaves
  words_before j u before = chosen (ltb (min leaves place) end) refl
    where
      chosen : (b : Bool) → ltb (min leaves place) end ≡ b → get_or w (level_start g i + j) 0 ≡ get_or (level_words own (room g i)) j 0
      chosen true t = same_before w (level_start g i) (room g i) (level_words own (room g i)) j u (omega (arith, before, leftmost (ltb-true _ _ t)))
      chosen false t = never_leaving w (level_start g i) (room g i) (level_words own (room g i)) (omega (arith, ltb-false (min leaves place) end t)) j u
