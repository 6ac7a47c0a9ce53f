-- The first fault of tests in order: one of them finds it, and those before it find none. Assumes nothing.
use Rattle.std.specs.Prelude.{ℕ, zero, suc, ◌+◌, ◌≤◌, ◌<◌, ◌≡◌, refl, Bool, true, false, ◌≢◌, ◌⊎◌, List, [], ◌∷◌, ◌++◌, eqb, Err, Ok}
use Rattle.std.proofs.Common.{arith, subst, eqb-true}
use Rattle.std.proofs.Math.Logic.◌⊎◌.{inl, inr}
use Rattle.std.proofs.lemmas.Bool.{eqb-false}
use Rattle.laws.specs.Lists.{span}
use Rattle.fault.specs.declared.Fault.{Fault}
use Rattle.fault.specs.Judged.{Judged}
use Rattle.rules.specs.Faults.{unless, first_fault}

-- Of tests numbered i, i + 1, … , n of them, the first that finds a fault finds f.
pub record FirstFound (test : ℕ → Judged) (i n : ℕ) (f : Fault) : Type 0 where
  pub at : ℕ
  pub lower : i ≤ at
  pub upper : at < i + n
  pub before : (j : ℕ) → i ≤ j → j < at → test j ≡ Ok tt
  pub finds : test at ≡ Err f

pub span_found : (test : ℕ → Judged) (i n : ℕ) (f : Fault) → first_fault (span test i n) ≡ Err f → FirstFound test i n f
unfolding span first_fault
span_found test i zero f e = let z : ◌≡◌ {A = ℕ} 0 1 = cc in absurd (omega arith)
span_found test i (suc n) f e = chosen (test i) refl e (span_found test (suc i) n f)
  where
    here : (found : FirstFound test (suc i) n f) → test i ≡ Ok tt → (j : ℕ) → i ≤ j → j < found.at → (b : Bool) → eqb i j ≡ b → test j ≡ Ok tt
    here found q j l u true t = subst (λ (k : ℕ). test k ≡ Ok tt) (eqb-true i j t) q
    here found q j l u false t = let d : i ≢ j = eqb-false i j t in found.before j (omega arith) u

    chosen : (j : Judged) → test i ≡ j → first_fault (j ∷ span test (suc i) n) ≡ Err f →
        (first_fault (span test (suc i) n) ≡ Err f → FirstFound test (suc i) n f) → FirstFound test i (suc n) f
    chosen (Ok tt) q r later =
        let found = later r in
        record { at = found.at; lower = omega arith; upper = omega arith; before = λ j l u. here found q j l u (eqb i j) refl; finds = found.finds }
    chosen (Err e) q r later = record { at = i; lower = omega arith; upper = omega arith; before = λ j l u. absurd (omega arith); finds = cc }

-- A single test that finds a fault fails, and the fault is its own.
pub unless_found : (b : Bool) (own f : Fault) → unless b own ≡ Err f → (b ≡ false) × (own ≡ f)
unless_found true own f e = let z : ◌≡◌ {A = ℕ} 0 1 = cc in absurd (omega arith)
unless_found false own f e = (refl, cc)

-- The first of tests finds it, or it finds none and the rest do; and so with tests and then others.
pub first_found : (j : Judged) (js : List Judged) (f : Fault) → first_fault (j ∷ js) ≡ Err f → (j ≡ Err f) ⊎ ((j ≡ Ok tt) × (first_fault js ≡ Err f))
unfolding first_fault
first_found (Ok tt) js f e = inr (refl, e)
first_found (Err g) js f e = inl e

pub joined_found : (js ks : List Judged) (f : Fault) → first_fault (js ++ ks) ≡ Err f → (first_fault js ≡ Err f) ⊎ ((first_fault js ≡ Ok tt) × (first_fault ks ≡ Err f))
unfolding first_fault
joined_found [] ks f e = inr (refl, e)
joined_found (Ok tt ∷ js) ks f e = joined_found js ks f e
joined_found (Err g ∷ js) ks f e = inl e

pub only_found : (j : Judged) (f : Fault) → first_fault (j ∷ []) ≡ Err f → j ≡ Err f
unfolding first_fault
only_found (Ok tt) f e = e
only_found (Err g) f e = e
