-- What a store without a fault is: laid out in the slots of the tree that its words hold, which is good.
-- Assumes nothing.
use Prim.Native.Nat.{ℕ, zero, suc, ◌+◌, ◌-◌, ◌*◌, ◌≤◌, ◌<◌}
use Rattle.std.proofs.Common.{zero-add, ◌∙◌, ext_get_or, get_or-take, length-take-le}
use native.Mathlib.Omega.{arith}
use Rattle.std.specs.Prelude.{◌≡◌, Bool, ◌&&◌, take, drop, leb}
use Rattle.std.proofs.Math.Path.{refl, sym, ap}
use Rattle.std.proofs.Math.Bool.{true, false}
use mathlib.Core.List.{List, [], map}
use Rattle.std.proofs.Math.ListN.{length, get_or}
use Rattle.std.proofs.Math.Dec.{ltb, eqb}
use borrow.Author.Tests.{ltb-true, ltb-false, eqb-true, ne_eqb}
use Rattle.laws.specs.Lists.{span, all, equal, length_span, get_d_span}
use Rattle.laws.specs.Tests.{and_three, and_six}
use Rattle.laws.specs.Flat.{equal_true}
use Rattle.geometry.specs.declared.Geometry.{Geometry}
use Rattle.geometry.specs.Geometry.{InRange, bottom, room}
use Rattle.geometry.specs.Places.{live_word, pages_word, head_count_word, head_start, head_room, level_start, store_words, head_word, ratio_word, levels_word, directory_words, words_in_page, words_in_slot}
use Rattle.geometry.specs.Bounds.{capacity_zero}
use Rattle.slot.specs.declared.Slot.{Slot}
use Rattle.rules.specs.Tree.{Tree, level}
use Rattle.rules.specs.Level.{index, pages_for, fences, weave, slots_of}
use Rattle.rules.specs.Store.{run_words, level_words, page_count, directory}
use Rattle.rules.specs.Sound.{head_slots, level_slots, entries_of, first_at, tree_of, pages_right, in_order, head_right, page_formed, ascending, level_laid, within_capacity, level_sound, head_sound}
use Rattle.rules.specs.Faultless.{Faultless}
use Rattle.geometry.specs.Directory.{geometry_of, pages_of, pages_of_lem}
use Rattle.rules.specs.Good.{Good}
use Rattle.rules.specs.Laid.{slots_head, slots_upper, slots_bottom}
use Rattle.written.specs.Inside.{level_places}
use Rattle.rules.specs.Directed.{live_most, mode_open, no_count}
use Rattle.entries.specs.Ascending.{levels_ascend}
use Rattle.entries.specs.Ready.{tree_ascends}
use Rattle.stored.specs.Parts.{Parts, page_count_lem, no_page_count}
use Rattle.stored.specs.Back.{state_of, tree_length, tree_head, tree_level}
use Rattle.stored.specs.Over.{laid_bare, woven_over, laid_over_lem}
use Rattle.stored.specs.Fitting.{WordsFit, tree_fits}

-- The first words of a list, written out.
words_out : (w : List ℕ) (n : ℕ) → n ≤ length w → take n w ≡ span (λ j. get_or w j 0) 0 n
words_out w n h =
    let e : length (take n w) ≡ n = length-take-le n w h in
    ext_get_or 0 (take n w) (span (λ j. get_or w j 0) 0 n) (e ∙ sym (length_span (λ j. get_or w j 0) 0 n))
    (λ i b. get_or-take n w i 0 (omega arith) ∙ sym (get_d_span (λ j. get_or w j 0) 0 n i 0 (omega arith) ∙ ap (λ (k : ℕ). get_or w k 0) (zero-add i)))

module _ (g : Geometry) (w : List ℕ) (fit : InRange g) (whole : length w ≡ store_words g) (passed : Faultless g w) where
  abbrev tree : Tree
  tree = tree_of g w

  abbrev slots : ℕ → List Slot
  slots i = get_or (slots_of tree) i []

  -- The writing of a level's own entries over the pages below as they stand: what its tests show of it.
  own : ℕ → List Slot
  own i = level_laid g w i (entries_of (level_slots g w i))

  record LevelTold (i : ℕ) : Type 0 where
    counted : pages_for (length (own i)) ≡ pages_of g w i
    stands : take (words_in_page * room g i) (drop (level_start g i) w) ≡ level_words (own i) (room g i)
    within : within_capacity g i (length (entries_of (level_slots g w i))) ≡ true

  level_told : (i : ℕ) → 1 ≤ i → i < g.levels → LevelTold i
  unfolding level_sound own
  level_told i l u =
      let es = entries_of (level_slots g w i) in
      let formed = all (page_formed g w i) (span (λ p. p) 0 (pages_of g w i)) in
      let many = eqb (pages_for (length (level_laid g w i es))) (pages_of g w i) in
      let words = equal (take (64 * room g i) (drop (level_start g i) w)) (level_words (level_laid g w i es) (room g i)) in
      let all = and_three (formed && ascending es && many) words (within_capacity g i (length es)) (passed.levels i l u) in
      let front = and_three formed (ascending es) many all.0 in
      record { counted = eqb-true _ _ front.2; stands = equal_true _ _ all.1; within = all.2 }

  fits_room : (i : ℕ) → 1 ≤ i → i < g.levels → pages_for (length (own i)) ≤ room g i
  fits_room i l u = rw (level_told i l u).counted (level_places g w fit passed.directory whole i l u).pages_most

  exists : (i : ℕ) → i < g.levels → i < 4
  exists i u = omega (arith, fit.levels_most)

  -- From the bottom up, it is the slots of the tree's level.
  own_slots : (n i : ℕ) → 1 ≤ i → i + suc n ≡ g.levels → own i ≡ slots i
  unfolding own
  own_slots zero i l e =
      laid_bare g w i (entries_of (level_slots g w i)) (omega arith) ∙ ap (map index) (sym (tree_level g w fit i l (omega arith))) ∙
      sym (slots_bottom tree i l (omega (arith, tree_length g w fit)))
  own_slots (suc n) i l e =
      let u : suc i < g.levels = omega arith in
      let below : own (suc i) ≡ slots (suc i) = own_slots n (suc i) (omega arith) (omega arith) in
      let told = level_told (suc i) (omega arith) u in
      laid_over_lem g w i (own (suc i)) whole (exists (suc i) u) (sym told.counted) (fits_room (suc i) (omega arith) u) told.stands (entries_of (level_slots g w i)) u ∙
      rw (below, ← tree_level g w fit i l (omega arith)) (sym (slots_upper tree i l (omega (arith, tree_length g w fit))))

  own_level : (i : ℕ) → 1 ≤ i → i < g.levels → own i ≡ slots i
  own_level i l u = own_slots (g.levels - suc i) i l (omega arith)

  -- So is the head.
  own_head : List Slot
  own_head = weave (entries_of (head_slots g w)) (fences (first_at g w 1) (pages_of g w 1))

  record HeadTold : Type 0 where
    right : head_right g w ≡ true
    counted : length own_head ≡ get_or w head_count_word 0
    stands : take (words_in_slot * head_room g) (drop head_start w) ≡ run_words own_head (head_room g)

  head_told : HeadTold
  unfolding head_sound own_head
  head_told =
      let all = and_three (head_right g w) _ _ passed.head_sound_lem in
      record { right = all.0; counted = eqb-true _ _ all.1; stands = equal_true _ _ all.2 }

  own_head_lem : own_head ≡ slots 0
  unfolding own_head
  own_head_lem =
      let u : 1 < g.levels = omega (arith, fit.levels_least) in
      let told = level_told 1 (omega arith) u in
      woven_over g w 0 (own 1) whole (omega arith) (sym told.counted) (fits_room 1 (omega arith) u) told.stands (entries_of (head_slots g w)) ∙
      rw (own_level 1 (omega arith) u, ← tree_head g w fit) (sym (slots_head tree (omega (arith, tree_length g w fit))))

  -- The directory is the tree's, and so are all parts of the store.
  pages_told : (i : ℕ) → 1 ≤ i → i ≤ 3 → get_or w (pages_word i) 0 ≡ page_count g (slots_of tree) i
  unfolding pages_right
  pages_told i l u = chosen (ltb i g.levels) refl
    where
      chosen : (b : Bool) → ltb i g.levels ≡ b → get_or w (pages_word i) 0 ≡ page_count g (slots_of tree) i
      chosen true e =
          let v : i < g.levels = ltb-true i g.levels e in
          sym (pages_of_lem g w i v) ∙ sym (level_told i l v).counted ∙ ap (λ (s : List Slot). pages_for (length s)) (own_level i l v) ∙
          sym (page_count_lem g (slots_of tree) i v)
      chosen false e =
          no_count g w passed.directory i l u (ltb-false i g.levels e) ∙ sym (no_page_count g (slots_of tree) i (ltb-false i g.levels e))

  nine : directory_words ≤ length w
  unfolding store_words level_start
  nine = omega arith

  front : geometry_of w ≡ g → take directory_words w ≡ directory g (get_or w live_word 0) (slots_of tree)
  unfolding directory span geometry_of
  front e =
      let a : get_or w head_word 0 ≡ g.head = ap (λ (x : Geometry). x.head) e in
      let b : get_or w ratio_word 0 ≡ g.ratio = ap (λ (x : Geometry). x.ratio) e in
      let c : get_or w levels_word 0 ≡ g.levels = ap (λ (x : Geometry). x.levels) e in
      let h : get_or w head_count_word 0 ≡ length (slots 0) = sym head_told.counted ∙ ap length own_head_lem in
      words_out w directory_words nine ∙
      rw (a, b, c, pages_told 1 (omega arith) (omega arith), pages_told 2 (omega arith) (omega arith), pages_told 3 (omega arith) (omega arith), mode_open g w passed.directory, h)
      refl

  pub parts : geometry_of w ≡ g → Parts g (get_or w live_word 0) (slots_of tree) w
  parts e = record {
    whole = whole;
    front = front e;
    head = head_told.stands ∙ ap (λ (s : List Slot). run_words s (head_room g)) own_head_lem;
    levels = λ i l u. (level_told i l u).stands ∙ ap (λ (s : List Slot). level_words s (room g i)) (own_level i l u);
  }

  -- And the state is good.
  head_within : within_capacity g 0 (length (level 0 tree)) ≡ true
  unfolding within_capacity head_right
  head_within =
      let ss = head_slots g w in
      let all = and_six (leb (get_or w head_count_word 0) (head_room g)) (ltb (length (entries_of ss)) g.head) (in_order ss) _ _ _ head_told.right in
      rw (ne_eqb 0 (bottom g) (λ e. omega (arith, e, fit.levels_least)), within_capacity, tree_head g w fit, capacity_zero g) all.1

  all_within : (i : ℕ) → i < g.levels → within_capacity g i (length (level i tree)) ≡ true
  all_within zero u = head_within
  all_within (suc i) u = rw (tree_level g w fit (suc i) (omega arith) u) (level_told (suc i) (omega arith) u).within

  pub good : WordsFit w → Good g (state_of g w)
  unfolding state_of levels_ascend
  good words = record {
    levels = tree_length g w fit;
    ascends = tree_ascends g w head_told.right (λ i l u. passed.levels i l (omega (arith, fit.levels_least)));
    within = all_within;
    alternates = passed.alternates;
    counted = passed.counted;
    few = live_most g w passed.directory;
    fit = tree_fits g w words;
  }
