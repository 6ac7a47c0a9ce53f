-- The first word that fails a test, told by the slot that it belongs to: numbers in groups, and words in pages of slots. Assumes nothing.
use Rattle.std.specs.Prelude.{ℕ, ◌+◌, ◌-◌, ◌*◌, ◌/◌, ◌%◌, ◌≤◌, ◌<◌, ◌≡◌, Bool, ◌&&◌, ◌≢◌}
use Rattle.std.proofs.Math.Nat.{div-eq_of_lt, mod-eq_of_lt, div_self, mod_self, mul-one, mul-zero}
use native.Mathlib.Omega.{arith}
use Rattle.std.proofs.Math.Path.{refl}
use Rattle.std.proofs.Common.{sym, ap, ◌∙◌}
use Rattle.std.proofs.Math.Bool.{true, false}
use Rattle.std.proofs.Math.Dec.{ltb, eqb}
use borrow.Author.Tests.{ltb-true, ltb-false, eqb-true, eqb-false, eq-eqb}
use Rattle.laws.specs.Tests.{and_left, and_right, and_three}
use Rattle.laws.specs.First.{first_not, first_most, before_first, fails_first, first_is}
use Rattle.geometry.specs.Places.{words_in_page, words_in_slot, slots_in_page}
use Rattle.rules.specs.Faults.{slot_of_word}

-- Tests that agree below a bound first fail at one number.
pub first_agree : (s t : ℕ → Bool) (n : ℕ) → ((j : ℕ) → j < n → s j ≡ t j) → first_not s n ≡ first_not t n
first_agree s t n same =
    let most : first_not t n ≤ n = first_most t n in
    first_is s n (first_not t n) most (λ j h. same j (omega arith) ∙ before_first t n j h) (λ h. same (first_not t n) h ∙ fails_first t n h)

-- A group passes its test exactly if all its numbers pass theirs: then the first group that fails is that of the first number that fails.
module _ (t ok : ℕ → Bool) (group : ℕ → ℕ) (n m : ℕ) (rises : (i j : ℕ) → i ≤ j → j ≤ n → group i ≤ group j) (ends : group n ≡ m)
    (passes : (j : ℕ) → j < n → ok (group j) ≡ true → t j ≡ true)
    (all_pass : (k : ℕ) → k < m → ((j : ℕ) → j < n → group j ≡ k → t j ≡ true) → ok k ≡ true) where
  abbrev first : ℕ
  first = first_not t n

  first_low : first ≤ n
  first_low = first_most t n

  earlier : (k : ℕ) → k < group first → (j : ℕ) → j < n → group j ≡ k → t j ≡ true
  earlier k h j b e = by (ltb j first) refl
    where
      by : (c : Bool) → ltb j first ≡ c → t j ≡ true
      by true q = before_first t n j (ltb-true j first q)
      by false q = absurd (omega (arith, rises first j (ltb-false j first q) (omega arith)))

  fails : group first < m → ok (group first) ≡ false
  fails h = by (ok (group first)) refl (ltb first n) refl
    where
      by : (b : Bool) → ok (group first) ≡ b → (c : Bool) → ltb first n ≡ c → b ≡ false
      by false p c q = refl
      by true p true q = let l = ltb-true first n q in sym (passes first l p) ∙ fails_first t n l
      by true p false q =
          let e : first ≡ n = omega (arith, first_low, ltb-false first n q) in
          absurd (omega (arith, ends, ap group e))

  pub first_grouped : first_not ok m ≡ group first
  first_grouped =
      let most : group first ≤ m = omega (arith, rises first n first_low (omega arith), ends) in
      first_is ok m (group first) most (λ k h. all_pass k (omega arith) (earlier k h)) fails

-- The words of a slot ----------------------------------------------------------------------------------------------------------------------------

-- Where the words of slot n begin, in pages of `most` slots.
unfoldable pub words_at : ℕ → ℕ → ℕ
words_at most n = words_in_page * (n / most) + 1 + words_in_slot * (n % most)

-- Whether a test of words passes for slot n: for its page's count, where it opens a page, and for its three words.
unfoldable pub opens : (ℕ → Bool) → ℕ → ℕ → Bool
opens t most n = elim (eqb (n % most) 0) [ true ↦ t (words_in_page * (n / most)) | false ↦ true ]

unfoldable pub passes_at : (ℕ → Bool) → ℕ → ℕ → Bool
passes_at t most n = opens t most n && (t (words_at most n) && t (words_at most n + 1) && t (words_at most n + 2))

module _ (t : ℕ → Bool) (most n : ℕ) where
  -- What passes for a slot passes for each of its words.
  pub count_passes : n % most ≡ 0 → passes_at t most n ≡ true → t (64 * (n / most)) ≡ true
  unfolding passes_at opens
  count_passes z p = rw (eq-eqb (n % most) 0 z, opens) at (and_left (opens t most n) _ p)

  pub word_passes : (j : ℕ) → words_at most n ≤ j → j ≤ words_at most n + 2 → passes_at t most n ≡ true → t j ≡ true
  unfolding passes_at
  word_passes j l u p = by (eqb j (words_at most n)) refl (eqb j (words_at most n + 1)) refl
    where
      three : (t (words_at most n) ≡ true) × (t (words_at most n + 1) ≡ true) × (t (words_at most n + 2) ≡ true)
      three = and_three (t (words_at most n)) (t (words_at most n + 1)) (t (words_at most n + 2)) (and_right (opens t most n) _ p)

      by : (b : Bool) → eqb j (words_at most n) ≡ b → (c : Bool) → eqb j (words_at most n + 1) ≡ c → t j ≡ true
      by true q c r = rw (eqb-true j (words_at most n) q) three.0
      by false q true r = rw (eqb-true j (words_at most n + 1) r) three.1
      by false q false r =
          let x : j ≢ words_at most n = eqb-false j (words_at most n) q in
          let y : j ≢ words_at most n + 1 = eqb-false j (words_at most n + 1) r in
          let z : j ≡ words_at most n + 2 = omega arith in
          rw z three.2

  -- And it passes for a slot if it does for each of them.
  pub slot_passes : (n % most ≡ 0 → t (64 * (n / most)) ≡ true) → t (words_at most n) ≡ true → t (words_at most n + 1) ≡ true →
      t (words_at most n + 2) ≡ true → passes_at t most n ≡ true
  unfolding passes_at opens
  slot_passes count x y z = rw (x, y, z) (by (eqb (n % most) 0) refl)
    where
      by : (b : Bool) → eqb (n % most) 0 ≡ b → (elim b [ true ↦ t (64 * (n / most)) | false ↦ true ] && true) ≡ true
      by true q = rw (count (eqb-true (n % most) 0 q)) refl
      by false q = refl

-- Pages of 21 slots.
module _ (t : ℕ → Bool) (room : ℕ) where
  pub pages_grouped : first_not (passes_at t slots_in_page) (slots_in_page * room) ≡ slot_of_word slots_in_page (first_not t (words_in_page * room))
  unfolding slot_of_word words_at
  pages_grouped =
      first_grouped t (passes_at t 21) (slot_of_word 21) (64 * room) (21 * room) (λ i j h b. omega arith) (omega arith) passes
      (λ k h each. slot_passes t 21 k (λ z. each (64 * (k / 21)) (omega arith) (omega arith)) (each _ (omega arith) (omega arith)) (each _ (omega arith) (omega arith)) (each _ (omega arith) (omega arith)))
    where
      passes : (j : ℕ) → j < 64 * room → passes_at t 21 (slot_of_word 21 j) ≡ true → t j ≡ true
      passes j h p = by (eqb (j % 64) 0) refl
        where
          by : (b : Bool) → eqb (j % 64) 0 ≡ b → t j ≡ true
          by true q =
              let z : j % 64 ≡ 0 = eqb-true (j % 64) 0 q in
              let here : 64 * (slot_of_word 21 j / 21) ≡ j = omega arith in
              rw here at (count_passes t 21 (slot_of_word 21 j) (omega arith) p)
          by false q =
              let d : j % 64 ≢ 0 = eqb-false (j % 64) 0 q in
              word_passes t 21 (slot_of_word 21 j) j (omega arith) (omega arith) p

-- One page of any number of slots.
module _ (most : ℕ) where
  -- A word of it belongs to the slot that its number tells.
  slot_of_word_lem : (j : ℕ) → j ≤ (1 + 3 * most) * 1 → slot_of_word most j ≡ (j - 1) / 3
  unfolding slot_of_word
  slot_of_word_lem j h = by (ltb j (1 + 3 * most)) refl
    where
      by : (b : Bool) → ltb j (1 + 3 * most) ≡ b → most * (j / (1 + 3 * most)) + (j % (1 + 3 * most) - 1) / 3 ≡ (j - 1) / 3
      by true q =
          let l : j < 1 + 3 * most = ltb-true j (1 + 3 * most) q in
          rw (div-eq_of_lt l, mod-eq_of_lt l, mul-zero most) (omega arith)
      by false q =
          let e : j ≡ 1 + 3 * most = omega (arith, ltb-false j (1 + 3 * most) q) in
          let one : j / (1 + 3 * most) ≡ 1 = rw e (div_self {n = 1 + 3 * most} (omega arith)) in
          let none : j % (1 + 3 * most) ≡ 0 = rw e (mod_self (1 + 3 * most)) in
          rw (one, none, mul-one most) (omega arith)

  -- Its slots are all in page 0.
  module _ (k : ℕ) (h : k < most) where
    words_there : words_at most k ≡ 1 + 3 * k
    unfolding words_at
    words_there = rw (div-eq_of_lt h, mod-eq_of_lt h) (omega arith)

    first_there : 64 * (k / most) ≡ 0
    first_there = rw (div-eq_of_lt h)

  module _ (t : ℕ → Bool) (some : 1 ≤ most) where
    pub page_grouped : first_not (passes_at t most) (most * 1) ≡ slot_of_word most (first_not t ((1 + words_in_slot * most) * 1))
    page_grouped =
        first_grouped t (passes_at t most) (λ j. (j - 1) / 3) ((1 + 3 * most) * 1) (most * 1) (λ i j h b. omega arith) (omega arith) passes all_pass ∙
        sym (slot_of_word_lem (first_not t ((1 + 3 * most) * 1)) (first_most t ((1 + 3 * most) * 1)))
      where
        passes : (j : ℕ) → j < (1 + 3 * most) * 1 → passes_at t most ((j - 1) / 3) ≡ true → t j ≡ true
        passes j h p = by (eqb j 0) refl
          where
            low : (j - 1) / 3 < most
            low = omega arith

            by : (b : Bool) → eqb j 0 ≡ b → t j ≡ true
            by true q =
                let z : j ≡ 0 = eqb-true j 0 q in
                rw (z, ← first_there ((j - 1) / 3) low) (count_passes t most ((j - 1) / 3) (mod-eq_of_lt low ∙ omega arith) p)
            by false q =
                let d : j ≢ 0 = eqb-false j 0 q in
                let e = words_there ((j - 1) / 3) low in
                word_passes t most ((j - 1) / 3) j (omega arith) (omega arith) p

        all_pass : (k : ℕ) → k < most * 1 → ((j : ℕ) → j < (1 + 3 * most) * 1 → (j - 1) / 3 ≡ k → t j ≡ true) → passes_at t most k ≡ true
        all_pass k h each =
            let e = words_there k (omega arith) in
            let z : 64 * (k / most) ≡ 0 = first_there k (omega arith) in
            slot_passes t most k (λ q. each _ (omega arith) (omega (arith, mod-eq_of_lt {n = k} {m = most} (omega arith)))) (each _ (omega arith) (omega arith)) (each _ (omega arith) (omega arith))
            (each _ (omega arith) (omega arith))
