-- Words filled one after another: from each place on, what is left to fill goes to the same words. Assumes nothing.
use Rattle.std.specs.Prelude.{ℕ, suc, ◌+◌, ◌*◌, ◌/◌, ◌≤◌, ◌<◌, ◌≡◌, refl, List, length, set, drop}
use Rattle.std.proofs.Common.{add-one, arith, sym, ap, ◌∙◌, length-set, length-drop}
use Rattle.std.proofs.lemmas.List.Edits.{sets}
use Rattle.chip.specs.Bytes.{word_bytes, words_of, word_at, words_next, words_none}

pub record Filling (bytes w : List ℕ) (v : List ℕ) (i : ℕ) : Type 0 where
  pub not_past : i ≤ length bytes / word_bytes
  pub long : length v ≡ length w
  pub fills : sets v i (words_of (drop (word_bytes * i) bytes)) ≡ sets w 0 (words_of bytes)

module _ (bytes w : List ℕ) where
  pub fill_begins : Filling bytes w w 0
  fill_begins = record { not_past = omega arith; long = refl; fills = refl }

  module _ (v : List ℕ) (i : ℕ) (c : Filling bytes w v i) where
    pub fill_goes_on : i < length bytes / word_bytes → (word : ℕ) → word ≡ word_at bytes (word_bytes * i) → Filling bytes w (set v i word) (i + 1)
    fill_goes_on h word e =
        let next : word_bytes * suc i ≡ word_bytes * i + word_bytes = omega arith in
        record {
          not_past = omega arith;
          long = length-set v i word ∙ c.long;
          fills = rw (e, add-one i, next) (ap (sets v i) (sym (words_next bytes (word_bytes * i) (omega arith)))) ∙ c.fills;
        }

    pub fill_ends : length bytes / word_bytes ≤ i → v ≡ sets w 0 (words_of bytes)
    fill_ends h =
        rw (words_none (drop (word_bytes * i) bytes) (omega (arith, c.not_past, length-drop (word_bytes * i) bytes))) at c.fills
