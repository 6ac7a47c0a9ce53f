-- A slot's three words: badge, floor, tag. Read from words and made into words, with the round trip. Assumes nothing.
use Rattle.std.specs.Prelude.{ℕ, suc, ◌+◌, ◌≤◌, ◌≡◌, List, ◌∷◌, length, get_or}
use Rattle.std.proofs.Common.{add-one, arith}
use Rattle.std.proofs.Math.Numerals.{add-two, add-three}
use Rattle.std.proofs.Math.Seq.{slice, slice-cons, slice_empty}
use Rattle.slot.specs.Tag.{tag_again}
use Rattle.slot.specs.Slot.{slot_at, words_of}

-- The words of the slot that was read are the words that it was read from.
pub words_again : (words : List ℕ) (i : ℕ) → i + 3 ≤ length words → words_of (slot_at words i) ≡ slice i (i + 3) words
unfolding slot_at words_of
words_again words i h =
    let a : slice i (i + 3) words ≡ get_or words i 0 ∷ slice (suc i) (i + 3) words = slice-cons i (i + 3) words 0 (omega arith) h in
    let b : slice (suc i) (i + 3) words ≡ get_or words (suc i) 0 ∷ slice (suc (suc i)) (i + 3) words = slice-cons (suc i) (i + 3) words 0 (omega arith) h in
    let d : slice (suc (suc i)) (i + 3) words ≡ get_or words (suc (suc i)) 0 ∷ slice (suc (suc (suc i))) (i + 3) words =
    slice-cons (suc (suc i)) (i + 3) words 0 (omega arith) h in
    rw (tag_again (get_or words (i + 2) 0), a, b, d, add-one i, add-two i, add-three i, slice_empty (suc (suc (suc i))) words)
