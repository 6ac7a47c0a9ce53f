-- A slot's three words are unused exactly if the words from its place to its end are. Assumes nothing.
use Rattle.std.specs.Prelude.{ℕ, ◌+◌, ◌-◌, ◌≡◌, refl, Bool, true, false, ◌&&◌, List, get_or, eqb}
use native.Mathlib.Omega.{arith}
use Rattle.geometry.specs.Places.{erased}
use Rattle.written.specs.Tested.{blank, unused}
use Rattle.leaving.specs.Stands.{unused_at}

pub slot_blank : (w : List ℕ) (at : ℕ) → unused w at (at + 3) ≡ unused_at w at
unfolding unused blank unused_at
slot_blank w at =
    let three : at + 3 - at ≡ 3 = omega arith in
    let third : at + 1 + 1 ≡ at + 2 = omega arith in
    rw (three, ← third) (chosen (eqb (get_or w at 0) erased) (eqb (get_or w (at + 1) 0) erased) (eqb (get_or w (at + 1 + 1) 0) erased))
  where
    chosen : (a b c : Bool) →
        ◌≡◌ {A = Bool} (elim a [ true ↦ elim b [ true ↦ elim c [ true ↦ true | false ↦ false ] | false ↦ false ] | false ↦ false ]) (a && b && c)
    chosen true true true = refl
    chosen true true false = refl
    chosen true false c = refl
    chosen false b c = refl
