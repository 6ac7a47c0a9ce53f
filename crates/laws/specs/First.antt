-- The first number of which a test fails, among 0, 1, … below a bound. Assumes nothing.
use Prim.Native.Nat.{ℕ, zero, suc, ◌+◌, ◌-◌, ◌≤◌, ◌<◌}
use Rattle.std.proofs.Math.Nat.{sub-zero}
use Rattle.std.proofs.Math.Numerals.{add-one}
use native.Mathlib.Omega.{arith}
use Rattle.std.specs.Prelude.{◌≡◌, Bool, ◌≢◌, ltb}
use Rattle.std.proofs.Math.Path.{refl}
use Rattle.std.proofs.Common.{sym, ◌∙◌}
use Rattle.std.proofs.Math.Bool.{true, false}
use Rattle.std.proofs.Math.Dec.{eqb}
use borrow.Author.Tests.{eqb-true, eqb-false, ltb-true, ltb-false}

-- Of n numbers from i on the first of which the test fails; past them, where it fails of none.
unfoldable pub first_from : (ℕ → Bool) → ℕ → ℕ → ℕ
first_from t i zero = i
first_from t i (suc n) = elim (t i) [ true ↦ first_from t (suc i) n | false ↦ i ]

unfoldable pub first_not : (ℕ → Bool) → ℕ → ℕ
first_not t n = first_from t 0 n

module _ (t : ℕ → Bool) where
  -- One number further, and where it ends.
  pub first_passes : (i n : ℕ) → i < n → t i ≡ true → first_from t i (n - i) ≡ first_from t (i + 1) (n - (i + 1))
  unfolding first_from
  first_passes i n h e =
      let s : n - i ≡ suc (n - (i + 1)) = omega arith in
      rw (s, first_from, e, add-one i)

  pub first_fails : (i n : ℕ) → i < n → t i ≡ false → first_from t i (n - i) ≡ i
  unfolding first_from
  first_fails i n h e =
      let s : n - i ≡ suc (n - (i + 1)) = omega arith in
      rw (s, first_from, e)

  pub first_ends : (i n : ℕ) → n ≤ i → first_from t i (n - i) ≡ i
  unfolding first_from
  first_ends i n h =
      let s : n - i ≡ 0 = omega arith in
      rw s

  pub first_begins : (n : ℕ) → first_not t n ≡ first_from t 0 (n - 0)
  unfolding first_not
  first_begins n = rw (sub-zero n)

  -- It is one of them or past them, the test passes of all before it, and fails of it.
  from_within : (n i : ℕ) → (i ≤ first_from t i n) × (first_from t i n ≤ i + n)
  unfolding first_from
  from_within zero i = (omega arith, omega arith)
  from_within (suc n) i = by (t i) (from_within n (suc i))
    where
      by : (b : Bool) → (suc i ≤ first_from t (suc i) n) × (first_from t (suc i) n ≤ suc i + n) →
          (i ≤ elim b as (λ _. ℕ) [ true ↦ first_from t (suc i) n | false ↦ i ]) × (elim b as (λ _. ℕ) [ true ↦ first_from t (suc i) n | false ↦ i ] ≤ i + suc n)
      by true ih = (omega (arith, ih.0), omega (arith, ih.1))
      by false ih = (omega arith, omega arith)

  pub first_most : (n : ℕ) → first_not t n ≤ n
  unfolding first_not
  first_most n = omega (arith, (from_within n 0).1)

  from_before : (n i j : ℕ) → i ≤ j → j < first_from t i n → t j ≡ true
  unfolding first_from
  from_before zero i j l u = absurd (omega arith)
  from_before (suc n) i j l u = by (t i) refl u (from_before n (suc i) j)
    where
      here : (c : Bool) → eqb i j ≡ c → t i ≡ true → (suc i ≤ j → t j ≡ true) → t j ≡ true
      here true q e later = rw (← eqb-true i j q) e
      here false q e later = let d : i ≢ j = eqb-false i j q in later (omega arith)

      by : (b : Bool) → t i ≡ b → j < elim b as (λ _. ℕ) [ true ↦ first_from t (suc i) n | false ↦ i ] → (suc i ≤ j → j < first_from t (suc i) n → t j ≡ true) → t j ≡ true
      by true e v ih = here (eqb i j) refl e (λ m. ih m v)
      by false e v ih = absurd (omega arith)

  pub before_first : (n j : ℕ) → j < first_not t n → t j ≡ true
  unfolding first_not
  before_first n j u = from_before n 0 j (omega arith) u

  from_fails : (n i : ℕ) → first_from t i n < i + n → t (first_from t i n) ≡ false
  unfolding first_from
  from_fails zero i u = absurd (omega arith)
  from_fails (suc n) i u = by (t i) refl u (from_fails n (suc i))
    where
      by : (b : Bool) → t i ≡ b → elim b as (λ _. ℕ) [ true ↦ first_from t (suc i) n | false ↦ i ] < i + suc n →
          (first_from t (suc i) n < suc i + n → t (first_from t (suc i) n) ≡ false) →
          t (elim b as (λ _. ℕ) [ true ↦ first_from t (suc i) n | false ↦ i ]) ≡ false
      by true e v ih = ih (omega arith)
      by false e v ih = e

  pub fails_first : (n : ℕ) → first_not t n < n → t (first_not t n) ≡ false
  unfolding first_not
  fails_first n u = from_fails n 0 (omega arith)

  -- And no other number is so.
  pub first_is : (n m : ℕ) → m ≤ n → ((j : ℕ) → j < m → t j ≡ true) → (m < n → t m ≡ false) → first_not t n ≡ m
  first_is n m most before fails = by (ltb (first_not t n) m) refl (ltb m (first_not t n)) refl
    where
      two : (b c : Bool) → b ≡ true → b ≡ false → ⊥
      two b c x y = let z : true ≡ false = sym x ∙ y in absurd (let q : ◌≡◌ {A = ℕ} 0 1 = cc in omega arith)

      by : (b : Bool) → ltb (first_not t n) m ≡ b → (c : Bool) → ltb m (first_not t n) ≡ c → first_not t n ≡ m
      by true p c q =
          let u = ltb-true (first_not t n) m p in
          absurd (two (t (first_not t n)) true (before (first_not t n) u) (fails_first n (omega arith)))
      by false p true q =
          let u = ltb-true m (first_not t n) q in
          absurd (two (t m) true (before_first n m u) (fails (omega (arith, first_most n))))
      by false p false q = omega (arith, ltb-false (first_not t n) m p, ltb-false m (first_not t n) q)

-- Where the test passes of 0, the rest is counted from 1 on.
from_one : (t : ℕ → Bool) (n i : ℕ) → first_from t (suc i) n ≡ suc (first_from (λ j. t (suc j)) i n)
unfolding first_from
from_one t zero i = refl
from_one t (suc n) i = by (t (suc i)) (from_one t n (suc i))
  where
    by : (b : Bool) → first_from t (suc (suc i)) n ≡ suc (first_from (λ j. t (suc j)) (suc i) n) →
        elim b as (λ _. ℕ) [ true ↦ first_from t (suc (suc i)) n | false ↦ suc i ] ≡ suc (elim b as (λ _. ℕ) [ true ↦ first_from (λ j. t (suc j)) (suc i) n | false ↦ i ])
    by true ih = ih
    by false ih = refl

pub first_later : (t : ℕ → Bool) (n : ℕ) → t 0 ≡ true → first_not t (suc n) ≡ suc (first_not (λ j. t (suc j)) n)
unfolding first_not first_from
first_later t n e = rw (e, first_from) (from_one t n 0)

pub first_at_once : (t : ℕ → Bool) (n : ℕ) → t 0 ≡ false → first_not t n ≡ 0
unfolding first_not first_from
first_at_once t zero e = refl
first_at_once t (suc n) e = rw (e, first_from)
