-- Lists joined end to end, each found at its place: where list i starts, list i + 1 starts behind it. Assumes nothing.
use Prim.Native.Nat.{ℕ, zero, suc, ◌+◌, ◌≤◌, ◌<◌}
use native.Mathlib.Omega.{arith}
use Rattle.std.specs.Prelude.{◌≡◌, Bool, true, false, ◌≢◌, take, drop, eqb}
use Rattle.std.proofs.Math.Path.{refl, sym}
use Rattle.std.proofs.Common.{◌∙◌, take-append-drop, take_at, drop_at, eqb-true}
use mathlib.Core.List.{List, ◌++◌, append_assoc}
use Rattle.std.proofs.Math.ListN.{length, length-append, drop_of_length-le}
use Rattle.std.proofs.Math.Seq.{drop-drop}
use Rattle.std.proofs.lemmas.Bool.{eqb-false}
use Rattle.laws.specs.Lists.{span, concat}

module _ {A : Type 0} (f : ℕ → List A) (start : ℕ → ℕ) (next : (i : ℕ) → start (suc i) ≡ start i + length (f i)) where
  -- How far n of them reach.
  pub joined_length : (i n : ℕ) → start i + length (concat (span f i n)) ≡ start (i + n)
  unfolding concat span
  joined_length i zero = let e : i + 0 ≡ i = omega arith in rw e (omega arith)
  joined_length i (suc n) =
      let e : i + suc n ≡ suc i + n = omega arith in
      rw e (omega (arith, length-append (f i) (concat (span f (suc i) n)), next i, joined_length (suc i) n))

  -- Each stands at its place.
  pub joined_part : (front : List A) (i n j : ℕ) → length front ≡ start i → i ≤ j → j < i + n →
      take (length (f j)) (drop (start j) (front ++ concat (span f i n))) ≡ f j
  unfolding concat span
  joined_part front i zero j e l u = absurd (omega arith)
  joined_part front i (suc n) j e l u = chosen (eqb i j) refl (joined_part (front ++ f i) (suc i) n j (length-append front (f i) ∙ omega (arith, next i)))
    where
      rest : List A
      rest = concat (span f (suc i) n)

      chosen : (b : Bool) → eqb i j ≡ b → (suc i ≤ j → j < suc i + n → take (length (f j)) (drop (start j) (front ++ f i ++ rest)) ≡ f j) →
          take (length (f j)) (drop (start j) (front ++ (f i ++ rest))) ≡ f j
      chosen true t later = rw (← (eqb-true i j t), drop_at front (f i ++ rest) (start i) e) (take_at (f i) rest (length (f i)) refl)
      chosen false t later =
          let d : i ≢ j = eqb-false i j t in
          rw (← append_assoc front (f i) rest) (later (omega arith) (omega arith))

  -- A list in which each stands at its place, and nothing behind the last, is made of them.
  pub parts_joined : (w : List A) (i n : ℕ) → length w ≡ start (i + n) → ((j : ℕ) → i ≤ j → j < i + n → take (length (f j)) (drop (start j) w) ≡ f j) →
      drop (start i) w ≡ concat (span f i n)
  unfolding concat span
  parts_joined w i zero e h = let b : length w ≤ start i = (let z : i + 0 ≡ i = omega arith in rw (e, z) (omega arith)) in drop_of_length-le w b
  parts_joined w i (suc n) e h =
      let s : i + suc n ≡ suc i + n = omega arith in
      sym (take-append-drop (length (f i)) (drop (start i) w)) ∙
      rw (
        h i (omega arith) (omega arith),
        drop-drop (length (f i)) (start i) w,
        ← next i,
        parts_joined w (suc i) n (rw (← s) e) (λ j l u. h j (omega arith) (omega arith)),
      ) refl
