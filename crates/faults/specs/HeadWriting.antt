-- 13 in the head: the slot that is told is the first whose words are not as in the writing. Assumes nothing.
use Rattle.std.specs.Prelude.{ℕ, suc, ◌+◌, ◌*◌, ◌≤◌, ◌<◌, ◌≡◌, true, false, ◌⊎◌, List, drop, leb, ltb}
use Rattle.std.proofs.Common.{arith, sym, ◌∙◌}
use Rattle.std.proofs.Math.Path.{ap}
use Rattle.std.proofs.lemmas.Bool.{false≢true}
use Rattle.std.proofs.Math.Logic.◌⊎◌.{inl, inr}
use Rattle.std.proofs.Math.ListN.{length, get_or, take}
use borrow.Author.Tests.{ltb-true, eq-eqb}
use Rattle.laws.specs.Tests.{and_six}
use Rattle.laws.specs.Lists.{length_span}
use Rattle.laws.specs.Flat.{equal_refl}
use Rattle.geometry.specs.declared.Geometry.{Geometry}
use Rattle.geometry.specs.Geometry.{InRange}
use Rattle.geometry.specs.Places.{head_count_word, head_start, head_room, level_start, store_words, words_in_slot}
use Rattle.geometry.specs.Directory.{pages_of}
use Rattle.slot.specs.declared.Slot.{Slot}
use Rattle.rules.specs.Level.{fences, fence_of, weave}
use Rattle.rules.specs.Store.{run_words}
use Rattle.rules.specs.Sound.{head_slots, entries_of, first_at, directory_right, in_order, head_right, head_sound}
use Rattle.rules.specs.Faults.{leaving, head_words, head_leaves}
use Rattle.rules.specs.Directed.{pages_fit}
use Rattle.layout.specs.Run.{run_words_lem}
use Rattle.good.specs.Pages.{weave_length}
use Rattle.faults.specs.Words.{Differs, page_same_before, page_differs_or_same, page_slot_within, part_told}
use Rattle.faults.specs.Miswritten.{HeadMiswritten}

module _ (g : Geometry) (w : List ℕ) (fit : InRange g) (whole : length w ≡ store_words g) (right : directory_right g w ≡ true) where
  abbrev head_own : List Slot
  head_own = weave (entries_of (head_slots g w)) (fences (first_at g w 1) (pages_of g w 1))

  head_fits : head_right g w ≡ true → length head_own ≤ head_room g
  unfolding head_right head_room fences
  head_fits head =
      let ss = head_slots g w in
      let tests = and_six (leb (get_or w head_count_word 0) (head_room g)) (ltb (length (entries_of ss)) g.head) (in_order ss) _ _ _ head in
      let few : length (entries_of ss) < g.head = ltb-true _ _ tests.1 in
      let pages = pages_fit g w right 1 (omega arith) (omega arith) in
      omega (arith, weave_length (entries_of ss) (fences (first_at g w 1) (pages_of g w 1)), length_span (fence_of (first_at g w 1)) 0 (pages_of g w 1))

  -- A head all of whose words are as in the writing is sound.
  head_same : head_right g w ≡ true → ((j : ℕ) → j < (1 + words_in_slot * head_room g) * 1 → get_or w (head_count_word + j) 0 ≡ get_or (head_words g w) j 0) → head_sound g w ≡ true
  unfolding head_sound head_words store_words level_start
  head_same head same =
      let counted : get_or w head_count_word 0 ≡ length head_own = same 0 (omega arith) in
      let stands : take (words_in_slot * head_room g) (drop head_start w) ≡ run_words head_own (head_room g) =
      part_told w head_start (words_in_slot * head_room g) (run_words head_own (head_room g)) (omega arith) (run_words_lem head_own (head_room g) (head_fits head))
      (λ j u. ap (λ (k : ℕ). get_or w k 0) (omega arith) ∙ same (suc j) (omega arith)) in
      rw (head, eq-eqb _ _ (sym counted), stands) (equal_refl (run_words head_own (head_room g)))

  pub head_miswritten : head_right g w ≡ true → head_sound g w ≡ false → HeadMiswritten g w (head_leaves g w)
  unfolding head_leaves head_room
  head_miswritten head wrong = chosen (page_differs_or_same w head_count_word (head_room g) (head_words g w))
    where
      chosen : Differs w head_count_word (head_room g) 1 (head_words g w) (leaving w head_count_word (head_room g) 1 (head_words g w)) ⊎
          ((j : ℕ) → j < (1 + words_in_slot * head_room g) * 1 → get_or w (head_count_word + j) 0 ≡ get_or (head_words g w) j 0) →
          HeadMiswritten g w (leaving w head_count_word (head_room g) 1 (head_words g w))
      chosen (inl differs) = record {
        unsound = wrong;
        within = page_slot_within w head_count_word (head_room g) (head_words g w) _ (omega (arith, fit.head_least)) differs;
        words_before = page_same_before w head_count_word (head_room g) (head_words g w);
        differs = differs;
      }
      chosen (inr same) = absurd (false≢true (sym wrong ∙ head_same head same))
