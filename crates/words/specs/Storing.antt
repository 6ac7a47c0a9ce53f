-- Words stored one after another: from each place on, what is left to store goes to the same words. Assumes nothing.
use Prim.Native.Nat.{ℕ, suc, ◌+◌, ◌-◌, ◌≤◌, ◌<◌}
use Rattle.std.proofs.Common.{add-zero}
use Rattle.std.proofs.Math.Numerals.{add-one}
use native.Mathlib.Omega.{arith}
use Rattle.std.specs.Prelude.{◌≡◌, List, length, get_or, set, take, replicate}
use Rattle.std.proofs.lemmas.List.Edits.{sets}
use Rattle.std.proofs.Math.Seq.{slice, slice-cons, slice_empty}
use Rattle.geometry.specs.Places.{erased}

-- Words from i on to be erased.
unfoldable pub erased_from : ℕ → ℕ → List ℕ → List ℕ
erased_from i to w = sets w i (replicate (to - i) erased)

pub record Erasing (w : List ℕ) (from to : ℕ) (v : List ℕ) (i : ℕ) : Type 0 where
  pub long : length v ≡ length w
  pub erases : erased_from i to v ≡ erased_from from to w

pub erase_goes_on : (v : List ℕ) (i to : ℕ) → i < to → erased_from (i + 1) to (set v i erased) ≡ erased_from i to v
unfolding erased_from
erase_goes_on v i to h =
    let n : to - i ≡ suc (to - (i + 1)) = omega arith in
    rw (n, add-one i)

pub erase_ends : (v : List ℕ) (i to : ℕ) → to ≤ i → v ≡ erased_from i to v
unfolding erased_from
erase_ends v i to h =
    let n : to - i ≡ 0 = omega arith in
    rw n

-- Words from j on to be copied, of the first n.
unfoldable pub copied_from : ℕ → List ℕ → ℕ → ℕ → List ℕ → List ℕ
copied_from place from n j w = sets w (place + j) (slice j n from)

pub record Copying (w : List ℕ) (place : ℕ) (from : List ℕ) (n : ℕ) (v : List ℕ) (j : ℕ) : Type 0 where
  pub not_past : j ≤ n
  pub long : length v ≡ length w
  pub copies : copied_from place from n j v ≡ sets w place (take n from)

module _ (place : ℕ) (from : List ℕ) (n : ℕ) where
  pub copy_begins : (w : List ℕ) → copied_from place from n 0 w ≡ sets w place (take n from)
  unfolding copied_from
  copy_begins w = rw (add-zero place)

  pub copy_goes_on : (v : List ℕ) (j : ℕ) → j < n → n ≤ length from → copied_from place from n (j + 1) (set v (place + j) (get_or from j 0)) ≡ copied_from place from n j v
  unfolding copied_from
  copy_goes_on v j h b =
      let e : place + (j + 1) ≡ suc (place + j) = omega arith in
      rw (slice-cons j n from 0 h b, e, add-one j)

  pub copy_ends : (v : List ℕ) (j : ℕ) → j ≡ n → v ≡ copied_from place from n j v
  unfolding copied_from
  copy_ends v j e = rw (e, slice_empty n from)
