-- The first slot whose words are not those of the writing. Assumes nothing.
use Rattle.std.specs.Prelude.{ℕ, ◌+◌, ◌-◌, ◌*◌, ◌/◌, ◌≤◌, ◌<◌, ◌≡◌, Bool, ◌≢◌, ◌⊎◌, List, length, take, drop, eqb}
use Rattle.std.proofs.Math.Nat.{div-eq_of_lt}
use Rattle.std.proofs.Common.{mod-eq_of_lt, arith, sym, ◌∙◌, length-take, length-drop, ext_get_or, get_or-take, get_or-drop}
use Rattle.std.proofs.Math.Path.{refl}
use Rattle.std.proofs.Math.Bool.{true, false}
use Rattle.std.proofs.Math.Logic.◌⊎◌.{inl, inr}
use Rattle.std.proofs.Math.ListN.{get_or}
use Rattle.std.proofs.Math.Dec.{ltb}
use borrow.Author.Tests.{eqb-true, eqb-false, ltb-true, ltb-false}
use Rattle.laws.specs.First.{first_not, before_first, fails_first}
use Rattle.geometry.specs.Places.{slots_in_page, words_in_slot}
use Rattle.rules.specs.Faults.{slot_of_word, leaving}

-- Words of a store from a place on, in pages of a size, and the words that they should be. Every word that belongs to a slot before slot n is as
-- it should be.
abbrev pub SameBefore : List ℕ → ℕ → ℕ → ℕ → List ℕ → ℕ → Type 0
SameBefore w start size pages words n =
    (j : ℕ) → j < (1 + words_in_slot * size) * pages → slot_of_word size j < n → get_or w (start + j) 0 ≡ get_or words j 0

-- A word that belongs to slot n is not as it should be.
pub record Differs (w : List ℕ) (start size pages : ℕ) (words : List ℕ) (n : ℕ) : Type 0 where
  pub word : ℕ
  pub within : word < (1 + words_in_slot * size) * pages
  pub of_slot : slot_of_word size word ≡ n
  pub differs : get_or w (start + word) 0 ≢ get_or words word 0

-- Later words belong to later slots: in pages of 21 slots, and in a single page.
abbrev Growing : ℕ → ℕ → Type 0
Growing size pages = (j k : ℕ) → j ≤ k → k < (1 + words_in_slot * size) * pages → slot_of_word size j ≤ slot_of_word size k

pages_growing : (pages : ℕ) → Growing slots_in_page pages
unfolding slot_of_word
pages_growing pages j k h u = omega arith

slot_of_page : (size j : ℕ) → j < 1 + words_in_slot * size → slot_of_word size j ≡ (j - 1) / words_in_slot
unfolding slot_of_word
slot_of_page size j h = rw (div-eq_of_lt h, mod-eq_of_lt h) (omega arith)

page_growing : (size : ℕ) → Growing size 1
page_growing size j k h u = omega (arith, slot_of_page size j (omega arith), slot_of_page size k (omega arith))

module _ (w : List ℕ) (start size pages : ℕ) (words : List ℕ) where
  abbrev end : ℕ
  end = (1 + words_in_slot * size) * pages

  abbrev same : ℕ → Bool
  same j = eqb (get_or w (start + j) 0) (get_or words j 0)

  before_leaving : Growing size pages → SameBefore w start size pages words (leaving w start size pages words)
  unfolding leaving
  before_leaving grows j u h = chosen (ltb j (first_not same end)) refl
    where
      chosen : (b : Bool) → ltb j (first_not same end) ≡ b → get_or w (start + j) 0 ≡ get_or words j 0
      chosen true t = eqb-true _ _ (before_first same end j (ltb-true _ _ t))
      chosen false t = absurd (omega (arith, grows (first_not same end) j (ltb-false _ _ t) u))

  left : first_not same end < end → Differs w start size pages words (leaving w start size pages words)
  unfolding leaving
  left h = record { word = first_not same end; within = h; of_slot = refl; differs = eqb-false _ _ (fails_first same end h) }

  none_left : end ≤ first_not same end → (j : ℕ) → j < end → get_or w (start + j) 0 ≡ get_or words j 0
  none_left h j u = eqb-true _ _ (before_first same end j (omega arith))

-- In pages of 21 slots: what leaving tells, before it and at it.
module _ (w : List ℕ) (start pages : ℕ) (words : List ℕ) where
  pub same_before : SameBefore w start slots_in_page pages words (leaving w start slots_in_page pages words)
  same_before = before_leaving w start slots_in_page pages words (pages_growing pages)

  pub leaving_differs : leaving w start slots_in_page pages words < slots_in_page * pages → Differs w start slots_in_page pages words (leaving w start slots_in_page pages words)
  unfolding leaving slot_of_word
  leaving_differs h = left w start slots_in_page pages words (omega arith)

  pub never_leaving : slots_in_page * pages ≤ leaving w start slots_in_page pages words → (j : ℕ) → j < 64 * pages → get_or w (start + j) 0 ≡ get_or words j 0
  unfolding leaving slot_of_word
  never_leaving h j u = none_left w start slots_in_page pages words (omega arith) j u

  pub slot_within : (n : ℕ) → Differs w start slots_in_page pages words n → n < slots_in_page * pages
  unfolding slot_of_word
  slot_within n d = omega (arith, d.within, d.of_slot)

-- In a single page.
module _ (w : List ℕ) (start size : ℕ) (words : List ℕ) where
  pub page_same_before : SameBefore w start size 1 words (leaving w start size 1 words)
  page_same_before = before_leaving w start size 1 words (page_growing size)

  pub page_differs_or_same : Differs w start size 1 words (leaving w start size 1 words) ⊎
      ((j : ℕ) → j < (1 + words_in_slot * size) * 1 → get_or w (start + j) 0 ≡ get_or words j 0)
  page_differs_or_same = chosen (ltb (first_not (same w start size 1 words) (end w start size 1 words)) (end w start size 1 words)) refl
    where
      chosen : (b : Bool) → ltb (first_not (same w start size 1 words) (end w start size 1 words)) (end w start size 1 words) ≡ b →
          Differs w start size 1 words (leaving w start size 1 words) ⊎ ((j : ℕ) → j < (1 + words_in_slot * size) * 1 → get_or w (start + j) 0 ≡ get_or words j 0)
      chosen true t = inl (left w start size 1 words (ltb-true _ _ t))
      chosen false t = inr (none_left w start size 1 words (ltb-false _ _ t))

  pub page_slot_within : (n : ℕ) → 1 ≤ size → Differs w start size 1 words n → n < size
  page_slot_within n some d = omega (arith, d.within, d.of_slot, slot_of_page size d.word (omega (arith, d.within)))

-- A part of a store that is told word by word.
pub part_told : (w : List ℕ) (start n : ℕ) (words : List ℕ) → start + n ≤ length w → length words ≡ n →
    ((j : ℕ) → j < n → get_or w (start + j) 0 ≡ get_or words j 0) → take n (drop start w) ≡ words
part_told w start n words inside many same =
    let long : length (take n (drop start w)) ≡ n = simp (length-take, length-drop) (omega arith) in
    ext_get_or 0 (take n (drop start w)) words (long ∙ sym many)
    (λ j b.
    let u : j < n = rw long at b in
    get_or-take n (drop start w) j 0 u ∙ get_or-drop start w j 0 ∙ same j u)
