-- The numbers of a text: in decimal without leading zeros, at most 32 bits. Assumes nothing.
use Rattle.std.specs.Prelude.{ℕ, ◌+◌, ◌-◌, ◌*◌, ◌≤◌, ◌<◌, ◌≡◌, refl, Bool, true, false, ◌&&◌, List, [], ◌∷◌, length, get_or, leb, ltb, eqb}
use Rattle.std.proofs.Common.{arith, leb-true, eq-eqb, ne_eqb, eqb-true}
use Rattle.std.proofs.Math.Option.{Option, some, none}
use Rattle.laws.specs.Tests.{and_left, and_right}
use Rattle.lines.specs.Lines.{Line, behind}

-- A byte is a digit from 48 to 57.
unfoldable pub is_digit : ℕ → Bool
is_digit b = leb 48 b && leb b 57

pub digit_within : (b : ℕ) → is_digit b ≡ true → (48 ≤ b) × (b ≤ 57)
unfolding is_digit
digit_within b e = (leb-true 48 b (and_left (leb 48 b) (leb b 57) e), leb-true b 57 (and_right (leb 48 b) (leb b 57) e))

-- A number with one more digit behind it, and whether the byte is a digit and the number below 2^32.
abbrev pub with_digit : ℕ → ℕ → ℕ
with_digit n b = 10 * n + (b - 48)

unfoldable pub goes_on : ℕ → ℕ → Bool
goes_on n b = is_digit b && ltb (with_digit n b) 4294967296

-- The number that the digits of n and then these make.
unfoldable pub number_from : ℕ → List ℕ → Option ℕ
number_from n [] = some n
number_from n (b ∷ bs) = elim (goes_on n b) [ true ↦ number_from (with_digit n b) bs | false ↦ none ]

-- A number has a digit at least, and a zero stands alone.
abbrev pub alone : List ℕ → Option ℕ
alone [] = some 0
alone (b ∷ bs) = none

unfoldable pub numeral : List ℕ → Option ℕ
numeral [] = none
numeral (b ∷ bs) = elim (eqb b 48) [ true ↦ alone bs | false ↦ number_from 0 (b ∷ bs) ]

-- The number that a line is, and the number that a line has behind a name.
abbrev pub number_in : Line → Option ℕ
number_in (some l) = numeral l
number_in none = none

abbrev pub value : List ℕ → Line → Option ℕ
value name l = number_in (behind name l)

-- The number that digits make, byte by byte.
module _ (n b : ℕ) (bs : List ℕ) where
  pub digits_go_on : goes_on n b ≡ true → number_from n (b ∷ bs) ≡ number_from (with_digit n b) bs
  unfolding number_from
  digits_go_on e = rw (e, number_from)

  pub digits_stop : goes_on n b ≡ false → number_from n (b ∷ bs) ≡ none
  unfolding number_from
  digits_stop e = rw (e, number_from)

pub digits_end : (n : ℕ) → number_from n [] ≡ some n
unfolding number_from
digits_end n = refl

-- Bytes that are none; a zero alone; one with more behind it; any other.
pub numeral_none : (bs : List ℕ) → length bs ≡ 0 → numeral bs ≡ none
unfolding numeral
numeral_none [] e = refl
numeral_none (b ∷ bs) e = absurd (omega (arith, e))

pub numeral_zero : (bs : List ℕ) → length bs ≡ 1 → get_or bs 0 0 ≡ 48 → numeral bs ≡ some 0
unfolding numeral
numeral_zero [] h e = absurd (omega (arith, h))
numeral_zero (b ∷ []) h e = rw (eq-eqb b 48 e, numeral)
numeral_zero (b ∷ c ∷ bs) h e = absurd (omega (arith, h))

pub numeral_padded : (bs : List ℕ) → 1 < length bs → get_or bs 0 0 ≡ 48 → numeral bs ≡ none
unfolding numeral
numeral_padded [] h e = absurd (omega (arith, h))
numeral_padded (b ∷ []) h e = absurd (omega (arith, h))
numeral_padded (b ∷ c ∷ bs) h e = rw (eq-eqb b 48 e, numeral)

pub numeral_digits : (bs : List ℕ) → 0 < length bs → (get_or bs 0 0 ≡ 48 → ⊥) → numeral bs ≡ number_from 0 bs
unfolding numeral
numeral_digits [] h e = absurd (omega (arith, h))
numeral_digits (b ∷ bs) h e = rw (ne_eqb b 48 e, numeral)

-- One digit alone is the number that it makes, a zero too.
pub numeral_one : (bs : List ℕ) → length bs ≡ 1 → numeral bs ≡ number_from 0 bs
unfolding numeral number_from goes_on is_digit
numeral_one [] h = absurd (omega (arith, h))
numeral_one (b ∷ c ∷ bs) h = absurd (omega (arith, h))
numeral_one (b ∷ []) h = by (eqb b 48) refl
  where
    by : (x : Bool) → eqb b 48 ≡ x → numeral (b ∷ []) ≡ number_from 0 (b ∷ [])
    by true e = rw (eqb-true b 48 e) refl
    by false e = numeral_digits (b ∷ []) (omega arith) (λ same. let wrong = eq-eqb b 48 same in cc)
