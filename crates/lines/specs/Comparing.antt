-- Bytes compared with those at a place of the input. Assumes nothing.
use Rattle.std.specs.Prelude.{ℕ, suc, ◌+◌, ◌≤◌, ◌<◌, ◌≡◌, refl, Bool, true, false, ◌&&◌, length, get_or, take, drop, nat_eq, eqb}
use Rattle.std.specs.Cmp.Lexicographic.{pointwise}
use Rattle.std.proofs.Common.{add-zero, add-suc, add-one, arith, ◌∙◌, drop_of_length-le, drop-cons, eq-eqb, ne_eqb, eqb-true}
use Rattle.std.proofs.lemmas.Bool.{eqb-false}
use Rattle.std.proofs.Math.Path.{sym, ap}
use mathlib.Core.List.{List, [], ◌∷◌}
use Rattle.lines.specs.Lines.{begins, begins_that, begins_other, begins_long}

-- Fewer bytes than a text has do not begin with it.
pub begins_short : (text bs : List ℕ) → length bs < length text → begins text bs ≡ false
begins_short text bs h = by (begins text bs) refl
  where
    by : (x : Bool) → begins text bs ≡ x → begins text bs ≡ false
    by true e = absurd (omega (arith, begins_long text bs e))
    by false e = e

-- The first j bytes of the text agree, and those left tell the rest.
pub record Comparing (w : List ℕ) (at : ℕ) (text : List ℕ) (j : ℕ) : Type 0 where
  pub not_past : j ≤ length text
  pub long : at + length text ≤ length w
  pub agrees : begins text (drop at w) ≡ begins (drop j text) (drop (at + j) w)

module _ (w : List ℕ) (at : ℕ) (text : List ℕ) where
  pub compare_begins : at + length text ≤ length w → Comparing w at text 0
  compare_begins h = record { not_past = omega arith; long = h; agrees = rw (add-zero at) }

  module _ (j : ℕ) (c : Comparing w at text j) where
    -- What is left of both, where bytes are left.
    both_left : j < length text →
        begins text (drop at w) ≡ begins (get_or text j 0 ∷ drop (suc j) text) (get_or w (at + j) 0 ∷ drop (suc (at + j)) w)
    both_left h =
        let inside : at + j < length w = omega (arith, c.long) in
        c.agrees ∙ rw (drop-cons text j 0 h, drop-cons w (at + j) 0 inside)

    pub compare_goes_on : j < length text → get_or w (at + j) 0 ≡ get_or text j 0 → Comparing w at text (j + 1)
    compare_goes_on h e = record {
      not_past = omega arith;
      long = c.long;
      agrees =
          both_left h ∙ begins_that (get_or text j 0) (drop (suc j) text) (get_or w (at + j) 0) (drop (suc (at + j)) w) (eq-eqb _ _ e) ∙
          rw (add-one j, add-suc at j);
    }

    pub compare_differs : j < length text → (get_or w (at + j) 0 ≡ get_or text j 0 → ⊥) → false ≡ begins text (drop at w)
    compare_differs h d = sym (both_left h ∙ begins_other (get_or text j 0) (drop (suc j) text) (get_or w (at + j) 0) (drop (suc (at + j)) w) (ne_eqb _ _ d))

    pub compare_ends : length text ≤ j → true ≡ begins text (drop at w)
    unfolding begins
    compare_ends h = sym (c.agrees ∙ ap (λ (l : List ℕ). begins l (drop (at + j) w)) (drop_of_length-le text h))

-- The library's test whether bytes begin with a text.
pub begins_told : (text bs : List ℕ) → pointwise nat_eq text (take (length text) bs) ≡ begins text bs
unfolding begins
begins_told [] bs = refl
begins_told (n ∷ ns) [] = refl
begins_told (n ∷ ns) (b ∷ bs) = by (eqb b n) refl (begins_told ns bs)
  where
    by : (x : Bool) → eqb b n ≡ x → pointwise nat_eq ns (take (length ns) bs) ≡ begins ns bs → (nat_eq n b && pointwise nat_eq ns (take (length ns) bs)) ≡ begins (n ∷ ns) (b ∷ bs)
    by true e ih = rw (eq-eqb n b (sym (eqb-true b n e))) (ih ∙ sym (begins_that n ns b bs e))
    by false e ih = rw (ne_eqb n b (λ same. eqb-false b n e (sym same))) (sym (begins_other n ns b bs e))
