-- Lists in which each element stands in a relation to the one before it, and one element more. Assumes nothing.
use Prim.Native.Nat.{ℕ, zero, suc, ◌-◌, ◌≤◌, ◌<◌}
use native.Mathlib.Omega.{arith}
use Rattle.std.specs.Prelude.{◌≡◌, Bool, ◌&&◌, length, get_or, take}
use Rattle.std.proofs.Math.Path.{refl}
use Rattle.std.proofs.Common.{sym, ◌∙◌}
use Rattle.std.proofs.Math.Bool.{true, false}
use Rattle.std.proofs.lemmas.Bool.{false≢true}
use mathlib.Core.List.{List, [], ◌∷◌, ◌++◌, append_assoc}
use Rattle.std.proofs.Math.Seq.{take-suc}
use Rattle.faults.specs.Broken.{BreaksAt}

unfoldable pub chain : {A : Type 0} → (A → A → Bool) → List A → Bool
chain r [] = true
chain r (a ∷ []) = true
chain r (a ∷ b ∷ l) = elim (r a b) [ true ↦ chain r (b ∷ l) | false ↦ false ]

-- Whether element s stands in the relation to the one before it; there is none before the first.
unfoldable pub linked : {A : Type 0} → (A → A → Bool) → List A → ℕ → A → Bool
linked r l zero d = true
linked r l (suc k) d = r (get_or l k d) (get_or l (suc k) d)

module _ {A : Type 0} (r : A → A → Bool) where
  chain_two : (a b : A) → chain r (a ∷ b ∷ []) ≡ r a b
  unfolding chain
  chain_two a b = by (r a b)
    where
      by : (c : Bool) → elim c as (λ _. Bool) [ true ↦ true | false ↦ false ] ≡ c
      by true = refl
      by false = refl

  -- The first two and the rest, with one element more at the end.
  chain_behind : (c last : Bool) (x y : Bool) → x ≡ (y && last) →
      elim c as (λ _. Bool) [ true ↦ x | false ↦ false ] ≡ (elim c as (λ _. Bool) [ true ↦ y | false ↦ false ] && last)
  chain_behind true last x y e = e
  chain_behind false last x y e = refl

  chain_one : (l : List A) (a b : A) → chain r (l ++ a ∷ b ∷ []) ≡ (chain r (l ++ a ∷ []) && r a b)
  unfolding chain
  chain_one [] a b = chain_two a b
  chain_one (x ∷ []) a b = chain_behind (r x a) (r a b) (chain r (a ∷ b ∷ [])) true (chain_two a b)
  chain_one (x ∷ y ∷ l) a b = chain_behind (r x y) (r a b) (chain r (y ∷ l ++ a ∷ b ∷ [])) (chain r (y ∷ l ++ a ∷ [])) (chain_one (y ∷ l) a b)

  pub chain_up : (l : List A) (s : ℕ) (d : A) → s < length l → chain r (take (suc s) l) ≡ (chain r (take s l) && linked r l s d)
  unfolding chain linked
  chain_up [] zero d h = absurd (omega arith)
  chain_up (x ∷ l) zero d h = refl
  chain_up l (suc k) d h =
      rw (take-suc l (suc k) d h, take-suc l k d (omega arith), append_assoc (take k l) (get_or l k d ∷ []) (get_or l (suc k) d ∷ []))
      (chain_one (take k l) (get_or l k d) (get_or l (suc k) d))

  pub unlinked : (l : List A) (s : ℕ) (d : A) → linked r l s d ≡ false → (1 ≤ s) × (r (get_or l (s - 1) d) (get_or l s d) ≡ false)
  unfolding linked
  unlinked l zero d e = absurd (false≢true (sym e))
  unlinked l (suc k) d e =
      let last : suc k - 1 ≡ k = omega arith in
      (omega arith, rw last e)

  -- The first element with which a list is no longer a chain does not stand in the relation to the one before it.
  pub chain_breaks : (l : List A) (s : ℕ) → BreaksAt (chain r) l s → (d : A) → (1 ≤ s) × (r (get_or l (s - 1) d) (get_or l s d) ≡ false)
  unfolding chain
  chain_breaks l s at d = unlinked l s d (sym (rw (kept s at.before) at (chain_up l s d at.within)) ∙ at.breaks)
    where
      kept : (n : ℕ) → ((m : ℕ) → m < n → chain r (take (suc m) l) ≡ true) → chain r (take n l) ≡ true
      kept zero before = refl
      kept (suc n) before = before n (omega arith)
