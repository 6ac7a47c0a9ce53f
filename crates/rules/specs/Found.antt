-- Laws of what several tests in order find: the first of them decides, and so does the first list of two. Assumes nothing.
use Rattle.std.specs.Prelude.{◌≡◌, Err, Ok}
use Rattle.std.proofs.Math.Path.{refl, ap}
use mathlib.Core.List.{List, [], ◌∷◌, ◌++◌}
use Rattle.fault.specs.declared.Fault.{Fault}
use Rattle.fault.specs.Judged.{Judged}
use Rattle.rules.specs.Faults.{first_fault}

pub only_one : (j : Judged) → first_fault (j ∷ []) ≡ j
unfolding first_fault
only_one (Ok tt) = refl
only_one (Err f) = refl

module _ (js : List Judged) where
  pub none_first : (j : Judged) → j ≡ Ok tt → first_fault (j ∷ js) ≡ first_fault js
  unfolding first_fault
  none_first j e = ap (λ (j : Judged). first_fault (j ∷ js)) e

  pub fault_first : (j : Judged) (f : Fault) → j ≡ Err f → first_fault (j ∷ js) ≡ Err f
  unfolding first_fault
  fault_first j f e = ap (λ (j : Judged). first_fault (j ∷ js)) e

  pub none_joined : (ks : List Judged) → first_fault ks ≡ Ok tt → first_fault (ks ++ js) ≡ first_fault js
  unfolding first_fault
  none_joined [] e = refl
  none_joined (Ok tt ∷ ks) e = none_joined ks e
  none_joined (Err f ∷ ks) e = let z : Err f ≡ Ok tt = e in cc

  pub fault_joined : (ks : List Judged) (f : Fault) → first_fault ks ≡ Err f → first_fault (ks ++ js) ≡ Err f
  unfolding first_fault
  fault_joined [] f e = let z : Ok tt ≡ Err f = e in cc
  fault_joined (Ok tt ∷ ks) f e = fault_joined ks f e
  fault_joined (Err g ∷ ks) f e = e
