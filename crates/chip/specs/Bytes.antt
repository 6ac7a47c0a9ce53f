-- The words that bytes make, four bytes to a word, the lowest byte first. Assumes nothing.
use Rattle.std.specs.Prelude.{ℕ, suc, ◌+◌, ◌*◌, ◌/◌, ◌≤◌, ◌<◌, ◌≡◌, refl, List, [], ◌∷◌, length, get_or, drop}
use Rattle.std.proofs.Common.{arith, drop-cons}

abbrev pub word_bytes : ℕ
word_bytes = 4

unfoldable pub word_of : ℕ → ℕ → ℕ → ℕ → ℕ
word_of a b c d = a + 256 * b + 65536 * (c + 256 * d)

-- Fewer than four bytes at the end make no word.
unfoldable pub words_of : List ℕ → List ℕ
words_of (a ∷ b ∷ c ∷ d ∷ bytes) = word_of a b c d ∷ words_of bytes
words_of [] = []
words_of (a ∷ []) = []
words_of (a ∷ b ∷ []) = []
words_of (a ∷ b ∷ c ∷ []) = []

-- The word that four bytes make, from a place on.
unfoldable pub word_at : List ℕ → ℕ → ℕ
word_at bytes at = word_of (get_or bytes at 0) (get_or bytes (at + 1) 0) (get_or bytes (at + 2) 0) (get_or bytes (at + 3) 0)

-- From a place on: one word, and then those of the bytes behind it; or none.
pub words_next : (bytes : List ℕ) (at : ℕ) → at + word_bytes ≤ length bytes → words_of (drop at bytes) ≡ word_at bytes at ∷ words_of (drop (at + word_bytes) bytes)
unfolding word_at words_of
words_next bytes at h =
    let one : suc at ≡ at + 1 = omega arith in
    let two : suc (at + 1) ≡ at + 2 = omega arith in
    let three : suc (at + 2) ≡ at + 3 = omega arith in
    let four : suc (at + 3) ≡ at + 4 = omega arith in
    rw (drop-cons bytes at 0 (omega arith), one, drop-cons bytes (at + 1) 0 (omega arith), two, drop-cons bytes (at + 2) 0 (omega arith), three, drop-cons bytes (at + 3) 0 (omega arith), four) refl

pub words_none : (bytes : List ℕ) → length bytes < word_bytes → words_of bytes ≡ []
unfolding words_of
words_none [] h = refl
words_none (a ∷ []) h = refl
words_none (a ∷ b ∷ []) h = refl
words_none (a ∷ b ∷ c ∷ []) h = refl
words_none (a ∷ b ∷ c ∷ d ∷ bytes) h = absurd (omega arith)

-- As many words as four goes into the number of bytes.
pub words_length : (bytes : List ℕ) → length (words_of bytes) ≡ length bytes / word_bytes
unfolding words_of
words_length [] = refl
words_length (a ∷ []) = refl
words_length (a ∷ b ∷ []) = refl
words_length (a ∷ b ∷ c ∷ []) = refl
words_length (a ∷ b ∷ c ∷ d ∷ bytes) = omega (arith, words_length bytes)
