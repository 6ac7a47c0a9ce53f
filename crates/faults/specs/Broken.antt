-- The first of a list with which it breaks a rule that it kept so far. Assumes nothing.
use Rattle.std.specs.Prelude.{ℕ, suc, ◌-◌, ◌≤◌, ◌<◌, ◌≡◌, refl, Bool, true, false, List, [], ◌∷◌, length, take, ltb}
use Rattle.std.proofs.Common.{arith, sym, ◌∙◌, ltb-true, ltb-false}
use Rattle.std.proofs.lemmas.Bool.{false≢true}
use Rattle.std.proofs.Math.Seq.{take-length}
use Rattle.laws.specs.First.{first_not, before_first, fails_first}

-- With its element s the list breaks the rule, and with every element before it it still keeps the rule.
pub record BreaksAt {A : Type 0} (rule : List A → Bool) (l : List A) (s : ℕ) : Type 0 where
  pub within : s < length l
  pub before : (n : ℕ) → n < s → rule (take (suc n) l) ≡ true
  pub breaks : rule (take (suc s) l) ≡ false

-- The first such element; past the list, where there is none.
abbrev pub first_break : {A : Type 0} → (List A → Bool) → List A → ℕ
first_break rule l = first_not (λ j. rule (take (suc j) l)) (length l)

module _ {A : Type 0} (rule : List A → Bool) (l : List A) where
  abbrev up_to : ℕ → Bool
  up_to j = rule (take (suc j) l)

  pub breaks_first : first_break rule l < length l → BreaksAt rule l (first_break rule l)
  breaks_first h = record { within = h; before = before_first up_to (length l); breaks = fails_first up_to (length l) h }

  -- Where none breaks it, the list keeps it as far as one goes, and as a whole.
  pub none_breaks : length l ≤ first_break rule l → (n : ℕ) → n < length l → rule (take (suc n) l) ≡ true
  none_breaks h n u = before_first up_to (length l) n (omega arith)

  pub none_keeps : length l ≤ first_break rule l → 1 ≤ length l → rule l ≡ true
  none_keeps h some =
      let last : suc (length l - 1) ≡ length l = omega arith in
      let all : rule (take (suc (length l - 1)) l) ≡ true = none_breaks h (length l - 1) (omega arith) in
      rw (last, take-length l) at all

-- So it is with a list that may be empty, where the empty list keeps the rule; and a list that does not keep it breaks it somewhere.
pub all_keep : {A : Type 0} (rule : List A → Bool) (l : List A) → rule [] ≡ true → length l ≤ first_break rule l → rule l ≡ true
all_keep rule [] empty h = empty
all_keep rule (a ∷ l) empty h = none_keeps rule (a ∷ l) h (omega arith)

pub broken_within : {A : Type 0} (rule : List A → Bool) (l : List A) → rule [] ≡ true → rule l ≡ false → first_break rule l < length l
broken_within rule l empty broken = chosen (ltb (first_break rule l) (length l)) refl
  where
    chosen : (b : Bool) → ltb (first_break rule l) (length l) ≡ b → first_break rule l < length l
    chosen true t = ltb-true _ _ t
    chosen false t = absurd (false≢true (sym broken ∙ all_keep rule l empty (ltb-false _ _ t)))
