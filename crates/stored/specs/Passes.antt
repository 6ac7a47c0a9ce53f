-- Words with the parts of a good state's writing pass every part of the whole-store test, where page form does. Assumes nothing.
use Rattle.std.specs.Prelude.{ℕ, zero, suc, ◌+◌, ◌≤◌, ◌<◌, ◌≡◌, Bool, true, false, length, get_or, ltb}
use Rattle.std.proofs.Common.{arith, sym, ◌∙◌}
use Rattle.std.proofs.Math.Path.{refl}
use mathlib.Core.List.{List, []}
use borrow.Author.Tests.{ltb-true, ltb-false, eq-eqb}
use Rattle.laws.specs.Lists.{span, all, all_at}
use Rattle.laws.specs.Flat.{equal_refl}
use Rattle.geometry.specs.declared.Geometry.{Geometry}
use Rattle.geometry.specs.Geometry.{InRange, room}
use Rattle.geometry.specs.Places.{head_count_word, head_room}
use Rattle.slot.specs.declared.Slot.{Slot}
use Rattle.rules.specs.Tree.{level}
use Rattle.rules.specs.Level.{pages_for, fences, weave, slots_of}
use Rattle.rules.specs.Merging.{State}
use Rattle.rules.specs.Store.{run_words, level_words, directory}
use Rattle.rules.specs.Sound.{head_slots, level_slots, entries_of, first_at, tree_of, directory_right, head_right, page_formed, ascending, level_laid, level_sound, head_sound}
use Rattle.rules.specs.Faultless.{Faultless}
use Rattle.geometry.specs.Directory.{pages_of}
use Rattle.rules.specs.Good.{Good, Fits}
use Rattle.rules.specs.Reading.{Reads}
use Rattle.rules.specs.Laid.{slots_head, slots_upper, slots_bottom}
use Rattle.stored.specs.Parts.{Parts}
use Rattle.stored.specs.Reading.{parts_read}
use Rattle.stored.specs.Slots.{slots_level}
use Rattle.stored.specs.Back.{tree_read}
use Rattle.stored.specs.Over.{laid_bare, woven_over, laid_over_lem}

-- A test that passes of each of a span passes of all.
all_span : (t : ℕ → Bool) (i n : ℕ) → ((j : ℕ) → i ≤ j → j < i + n → t j ≡ true) → all t (span (λ j. j) i n) ≡ true
unfolding all span
all_span t i zero h = refl
all_span t i (suc n) h = rw (h i (omega arith) (omega arith), all) (all_span t (suc i) n (λ j l u. h j (omega arith) (omega arith)))

module _ (g : Geometry) (s : State) (w : List ℕ) (fit : InRange g) (good : Good g s) (fits : Fits g (slots_of s.tree)) (p : Parts g s.live (slots_of s.tree) w)
    (right : directory_right g w ≡ true) (head_right_lem : head_right g w ≡ true)
    (formed : (i q : ℕ) → 1 ≤ i → i < g.levels → q < pages_of g w i → page_formed g w i q ≡ true) where
  -- What is read is what was written.
  abbrev written : ℕ → List Slot
  written i = get_or (slots_of s.tree) i []

  read : Reads g s.live (slots_of s.tree) w
  read = parts_read g s.live (slots_of s.tree) w fit fits p

  tree_again : tree_of g w ≡ s.tree
  tree_again = tree_read g s.live s.tree w fit fits read

  -- Each level is the writing of its own entries, and the head too.
  entries_read : (i : ℕ) → 1 ≤ i → i < g.levels → entries_of (level_slots g w i) ≡ level i s.tree
  entries_read i l u = rw (read.level_slots_lem i l u) (slots_level s.tree i)

  level_laid_lem : (i : ℕ) → 1 ≤ i → i < g.levels → level_laid g w i (level i s.tree) ≡ written i
  level_laid_lem i l u = chosen (ltb (suc i) g.levels) refl
    where
      chosen : (b : Bool) → ltb (suc i) g.levels ≡ b → level_laid g w i (level i s.tree) ≡ written i
      chosen true e =
          let v : suc i < g.levels = ltb-true (suc i) g.levels e in
          laid_over_lem g w i (written (suc i)) p.whole (omega (arith, fit.levels_most)) (read.pages (suc i) (omega arith) v) (fits.rooms (suc i) (omega arith) v)
          (p.levels (suc i) (omega arith) v) (level i s.tree) v ∙
          sym (slots_upper s.tree i l (omega (arith, good.levels)))
      chosen false e =
          let v : suc i ≡ g.levels = omega (arith, ltb-false (suc i) g.levels e) in
          laid_bare g w i (level i s.tree) v ∙ sym (slots_bottom s.tree i l (v ∙ sym good.levels))

  level_passes : (i : ℕ) → 1 ≤ i → i < g.levels → level_sound g w i ≡ true
  unfolding level_sound
  level_passes i l u =
      rw (
        all_span (page_formed g w i) 0 (pages_of g w i) (λ q a b. formed i q l u (omega arith)),
        entries_read i l u,
        level_laid_lem i l u,
        all_at ascending s.tree i [] good.ascends (omega (arith, good.levels)),
        read.pages i l u,
        eq-eqb (pages_for (length (written i))) (pages_for (length (written i))) refl,
        p.levels i l u,
        equal_refl (level_words (written i) (room g i)),
        good.within i u,
      ) refl

  head_laid_lem : weave (entries_of (head_slots g w)) (fences (first_at g w 1) (pages_of g w 1)) ≡ written 0
  head_laid_lem =
      let v : 1 < g.levels = omega (arith, fit.levels_least) in
      rw (read.head_slots_lem, slots_level s.tree 0)
      (woven_over g w 0 (written 1) p.whole (omega arith) (read.pages 1 (omega arith) v) (fits.rooms 1 (omega arith) v) (p.levels 1 (omega arith) v) (level 0 s.tree)) ∙
      sym (slots_head s.tree (omega (arith, good.levels)))

  head_passes : head_sound g w ≡ true
  unfolding head_sound
  head_passes =
      rw (
        head_right_lem,
        head_laid_lem,
        eq-eqb (length (written 0)) (get_or w head_count_word 0) (sym read.head_count_lem),
        p.head,
        equal_refl (run_words (written 0) (head_room g)),
      ) refl

  pub passes : Faultless g w
  passes = record {
    directory = right;
    head = head_right_lem;
    pages = formed;
    head_sound_lem = head_passes;
    levels = level_passes;
    alternates = rw tree_again good.alternates;
    counted = rw (tree_again, read.live_pairs) good.counted;
  }
