-- The store and the work area of a sheet are the first words of an array of zeros. Assumes nothing.
use Rattle.std.specs.Prelude.{ℕ, ◌+◌, ◌-◌, ◌≤◌, ◌≡◌, List, ◌++◌, length, take, replicate}
use Rattle.std.proofs.Common.{arith, sym, ap, ◌∙◌, take_at}
use Rattle.std.proofs.lemmas.List.{length-replicate, replicate-append-replicate}
use Rattle.geometry.specs.declared.Geometry.{Geometry}
use Rattle.geometry.specs.declared.Plan.{Plan}
use Rattle.geometry.specs.Places.{room_before, level_start, store_words, work_words, plan_of}
use Rattle.geometry.specs.Lent.{plan_words}
use Rattle.reading.specs.Sheet.{most_words}
use Rattle.sheet_calls.specs.Calls.{first_work}

-- The first n of m zeros are n zeros.
abbrev zeros_of : ℕ → List ℕ
zeros_of n = replicate n 0

zeros_first : (n m : ℕ) → n ≤ m → take n (zeros_of m) ≡ zeros_of n
zeros_first n m h =
    let both : n + (m - n) ≡ m = omega arith in
    let split : zeros_of n ++ zeros_of (m - n) ≡ zeros_of m = replicate-append-replicate {A = ℕ} n (m - n) 0 ∙ ap zeros_of both in
    ap (take n) (sym split) ∙ take_at (zeros_of n) (zeros_of (m - n)) n (length-replicate {A = ℕ} n 0)

-- The work area has fewer words than the store.
work_shorter : (g : Geometry) → work_words g ≤ store_words g
unfolding work_words store_words level_start room_before
work_shorter g = omega arith

module _ (g : Geometry) (plan : Plan) (planned : plan ≡ plan_of g) (short : store_words g ≤ most_words) where
  pub store_fits : plan.store_words ≤ most_words
  store_fits = omega (arith, short, plan_words plan g planned)

  work_words_lem : plan.work_words ≡ work_words g
  unfolding plan_of
  work_words_lem = rw planned

  pub work_fits : plan.work_words ≤ most_words
  work_fits = omega (arith, short, work_words_lem, work_shorter g)

  pub store_zeros : (words : List ℕ) → words ≡ replicate most_words 0 → take (plan.store_words - 0) words ≡ replicate (store_words g) 0
  store_zeros words e =
      let n : plan.store_words - 0 ≡ store_words g = omega (arith, plan_words plan g planned) in
      rw (e, n) (zeros_first (store_words g) most_words short)

  pub work_zeros : (words : List ℕ) → words ≡ replicate most_words 0 → take (plan.work_words - 0) words ≡ first_work g
  unfolding first_work
  work_zeros words e =
      let n : plan.work_words - 0 ≡ work_words g = omega (arith, work_words_lem) in
      rw (e, n) (zeros_first (work_words g) most_words (omega (arith, short, work_shorter g)))

pub zeros_long : (words : List ℕ) → words ≡ replicate most_words 0 → length words ≡ most_words
zeros_long words e = ap length e ∙ length-replicate {A = ℕ} most_words 0
