-- Laws of tests: a conjunction and its parts, and what a call that answered a test tells. Assumes nothing.
use Rattle.std.specs.Prelude.{ℕ, ◌<◌, ◌≤◌, ◌≡◌, refl, Bool, true, false, not, ◌&&◌, ltb, eqb}
use Rattle.std.proofs.Common.{arith, ◌∙◌, sym, lt-ltb, le-ltb, ltb-true, ltb-false, eq-eqb, ne_eqb, eqb-true}
use Rattle.std.proofs.lemmas.Bool.{false≢true, not-true, not-false, eqb-false}

-- A conjunction that holds has both its parts.
pub and_left : (a b : Bool) → (a && b) ≡ true → a ≡ true
and_left true b e = refl
and_left false b e = e

pub and_right : (a b : Bool) → (a && b) ≡ true → b ≡ true
and_right true b e = e
and_right false b e = cc

-- It fails where a part does.
pub and_false_left : (a b : Bool) → a ≡ false → (a && b) ≡ false
and_false_left a b e = rw e refl

pub and_false_right : (a b : Bool) → b ≡ false → (a && b) ≡ false
and_false_right true b e = e
and_false_right false b e = refl

-- What a call tells that answered r to the test p: after `if r`, and after `if !r`, taken or passed.
pub told_yes : (r p : Bool) → r ≡ p → r ≡ true → p ≡ true
told_yes r p e t = cc

pub told_no : (r p : Bool) → r ≡ p → not r ≡ true → p ≡ false
told_no r p e t = sym e ∙ not-true r t

pub told_past : (r p : Bool) → r ≡ p → not r ≡ false → p ≡ true
told_past r p e t = sym e ∙ not-false r t

-- Two tests that pass together are equal.
pub ltb_agree : (a b c d : ℕ) → (a < b → c < d) → (c < d → a < b) → ltb a b ≡ ltb c d
ltb_agree a b c d f g = picked (ltb c d) refl
  where
    picked : (t : Bool) → ltb c d ≡ t → ltb a b ≡ t
    picked true e = lt-ltb a b (g (ltb-true c d e))
    picked false e = le-ltb a b (not_lt λ h. lt_le (f h) (ltb-false c d e))
      where
        lt_le : c < d → d ≤ c → ⊥
        lt_le h k = omega arith

        not_lt : (a < b → ⊥) → b ≤ a
        not_lt n = let k : ¬ (a < b) = n in omega arith

pub eqb_agree : (a b c d : ℕ) → (a ≡ b → c ≡ d) → (c ≡ d → a ≡ b) → eqb a b ≡ eqb c d
eqb_agree a b c d f g = picked (eqb c d) refl
  where
    picked : (t : Bool) → eqb c d ≡ t → eqb a b ≡ t
    picked true e = eq-eqb a b (g (eqb-true c d e))
    picked false e = ne_eqb a b λ h. eqb-false c d e (f h)

-- What was found so far and what is found now, each of two kinds, kept kind by kind.
pub and_regroup : (a m l x y : Bool) → ((a && (m && l)) && (x && y)) ≡ (a && ((m && x) && (l && y)))
and_regroup true true true x y = refl
and_regroup true true false true y = refl
and_regroup true true false false y = refl
and_regroup true false l x y = refl
and_regroup false m l x y = refl

pub and_true : (a : Bool) → (a && true) ≡ a
and_true true = refl
and_true false = refl

pub and_false : (a : Bool) → (a && false) ≡ false
and_false true = refl
and_false false = refl

pub and_assoc : (a b c : Bool) → ((a && b) && c) ≡ (a && (b && c))
and_assoc true b c = refl
and_assoc false b c = refl

-- Tests that all pass, each by itself.
pub and_three : (a b c : Bool) → (a && b && c) ≡ true → (a ≡ true) × (b ≡ true) × (c ≡ true)
and_three true true c p = (refl, refl, p)
and_three true false c p = absurd (false≢true p)
and_three false b c p = absurd (false≢true p)

pub and_six : (a b c d e f : Bool) → (a && b && c && d && e && f) ≡ true → (a ≡ true) × (b ≡ true) × (c ≡ true) × (d ≡ true) × (e ≡ true) × (f ≡ true)
and_six true true true true true f p = (refl, refl, refl, refl, refl, p)
and_six true true true true false f p = absurd (false≢true p)
and_six true true true false e f p = absurd (false≢true p)
and_six true true false d e f p = absurd (false≢true p)
and_six true false c d e f p = absurd (false≢true p)
and_six false b c d e f p = absurd (false≢true p)
