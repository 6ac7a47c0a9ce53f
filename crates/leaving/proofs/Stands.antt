-- Whether a slot stands in words as the writing has it, with its page's count where it opens a page: what the clauses of src/lib.rt cite, and
-- that this compares the words of the writing one by one. Assumes nothing.
use Rattle.std.specs.Prelude.{ℕ, ◌+◌, ◌*◌, ◌/◌, ◌%◌, ◌<◌, Bool, ◌&&◌, List, length, get_or}
use native.Mathlib.Omega.{arith}
use Rattle.std.proofs.Math.Path.{◌≡◌, refl}
use Rattle.std.proofs.Common.{◌∙◌}
use Rattle.std.proofs.Math.Bool.{true, false}
use Rattle.std.proofs.Math.Dec.{ltb, eqb}
use borrow.Author.Tests.{eqb-true, ltb-true, ltb-false}
use Rattle.slot.specs.declared.Slot.{Slot}
use Rattle.slot.specs.Slot.{slot_at, words_of}
use Rattle.layout.specs.Stream.{same_slot}
use Rattle.entries.specs.declared.Run.{Run}
use Rattle.entries.specs.Run.{place_in}
use Rattle.leaving.specs.Grouped.{words_at, opens, passes_at}
use Rattle.leaving.specs.Stands.{Holds, count_stands, count_wanted, numbered, place_of, same_words, slot_stands, stands, unused_at}

-- A slot stands exactly if its words are those of the writing.
module _ (w : List ℕ) (run : Run) (slots : List Slot) (words : List ℕ) (m : ℕ) (holds : Holds run.most m slots words) where
  abbrev pub same_word : ℕ → Bool
  same_word j = eqb (get_or w (run.start + j) 0) (get_or words j 0)

  module _ (n : ℕ) (h : n < m) where
    abbrev at : ℕ
    at = words_at run.most n

    count_compared : count_stands w run (length slots) n ≡ opens same_word run.most n
    unfolding count_stands opens
    count_compared = by (eqb (n % run.most) 0) refl
      where
        by : (b : Bool) → eqb (n % run.most) 0 ≡ b → ◌≡◌ {A = Bool}
            (elim b [ true ↦ eqb (get_or w (run.start + 64 * (n / run.most)) 0) (count_wanted (length slots) run.most n) | false ↦ true ])
            (elim b [ true ↦ same_word (64 * (n / run.most)) | false ↦ true ])
        by true q = rw (holds.counts n h (eqb-true _ _ q)) refl
        by false q = refl

    -- Three words of a slot, and what the writing has there.
    three : (a b c : ℕ) → get_or words at 0 ≡ a → get_or words (at + 1) 0 ≡ b → get_or words (at + 2) 0 ≡ c →
        (eqb (get_or w (place_of run n) 0) a && eqb (get_or w (place_of run n + 1) 0) b && eqb (get_or w (place_of run n + 2) 0) c) ≡
        (same_word at && same_word (at + 1) && same_word (at + 2))
    unfolding place_of place_in words_at
    three a b c x y z =
        let first : place_of run n ≡ run.start + at = omega arith in
        let second : place_of run n + 1 ≡ run.start + (at + 1) = omega arith in
        let third : place_of run n + 2 ≡ run.start + (at + 2) = omega arith in
        rw (x, y, z, second, third, first) refl

    slot_compared : slot_stands w run slots n ≡ (same_word at && same_word (at + 1) && same_word (at + 2))
    unfolding slot_stands unused_at words_of
    slot_compared = by (ltb n (length slots)) refl
      where
        by : (b : Bool) → ltb n (length slots) ≡ b →
            elim b [ true ↦ same_slot (slot_at w (place_of run n)) (numbered slots n) | false ↦ unused_at w (place_of run n) ] ≡
            (same_word at && same_word (at + 1) && same_word (at + 2))
        by true q =
            let l = ltb-true n (length slots) q in
            same_words w (place_of run n) (numbered slots n) ∙
            three _ _ _ (holds.used n 0 at h l (omega arith) (omega arith)) (holds.used n 1 (at + 1) h l (omega arith) refl) (holds.used n 2 (at + 2) h l (omega arith) refl)
        by false q =
            let l = ltb-false n (length slots) q in
            three _ _ _ (holds.unused n 0 at h l (omega arith) (omega arith)) (holds.unused n 1 (at + 1) h l (omega arith) refl)
            (holds.unused n 2 (at + 2) h l (omega arith) refl)

    pub stands_compared : stands w run slots n ≡ passes_at same_word run.most n
    unfolding stands passes_at
    stands_compared = rw (count_compared, slot_compared) refl
