-- The loop that reads digits. Assumes nothing.
use Rattle.std.specs.Prelude.{ℕ, suc, ◌+◌, ◌-◌, ◌*◌, ◌≤◌, ◌<◌, ◌≡◌, refl, true, false, List, ◌∷◌, length, get_or, drop, ltb}
use Rattle.std.proofs.Common.{add-one, arith, ap, ◌∙◌, drop_of_length-le, drop-cons}
use Rattle.std.proofs.Math.Option.{some, none}
use borrow.Author.Tests.{lt-ltb, le-ltb}
use Rattle.laws.specs.Tests.{and_false_left, and_false_right}
use Rattle.lines.specs.Number.{is_digit, with_digit, goes_on, number_from, digits_go_on, digits_stop, digits_end}

-- Whether a byte goes on with a number, by its two tests.
module _ (n b : ℕ) where
  no_digit : is_digit b ≡ false → goes_on n b ≡ false
  unfolding goes_on
  no_digit e = and_false_left (is_digit b) (ltb (with_digit n b) 4294967296) e

  too_large : 4294967296 ≤ with_digit n b → goes_on n b ≡ false
  unfolding goes_on
  too_large h = and_false_right (is_digit b) (ltb (with_digit n b) 4294967296) (le-ltb (with_digit n b) 4294967296 h)

  a_digit : is_digit b ≡ true → with_digit n b < 4294967296 → goes_on n b ≡ true
  unfolding goes_on
  a_digit e h = rw (e, lt-ltb (with_digit n b) 4294967296 h)

-- The digits read so far are those of n, and the bytes left tell the rest.
pub record Counting (w : List ℕ) (j n : ℕ) : Type 0 where
  pub word : n < 4294967296
  pub number : number_from 0 w ≡ number_from n (drop j w)

pub count_begins : (w : List ℕ) → Counting w 0 0
count_begins w = record { word = omega arith; number = refl }

module _ (w : List ℕ) (j n : ℕ) (c : Counting w j n) where
  pub count_ends : length w ≤ j → number_from 0 w ≡ some n
  count_ends h = c.number ∙ ap (number_from n) (drop_of_length-le w h) ∙ digits_end n

  module _ (inside : j < length w) where
    abbrev byte : ℕ
    byte = get_or w j 0

    here : number_from 0 w ≡ number_from n (byte ∷ drop (suc j) w)
    here = c.number ∙ ap (number_from n) (drop-cons w j 0 inside)

    pub count_stops : is_digit byte ≡ false → number_from 0 w ≡ none
    count_stops e = here ∙ digits_stop n byte (drop (suc j) w) (no_digit n byte e)

    module _ (digit : is_digit byte ≡ true) (d : ℕ) (e : d ≡ byte - 48) where
      with_digit_lem : 10 * n + d ≡ with_digit n byte
      with_digit_lem = ap (λ (m : ℕ). 10 * n + m) e

      pub count_overflows : 4294967295 < 10 * n + d → number_from 0 w ≡ none
      count_overflows h = here ∙ digits_stop n byte (drop (suc j) w) (too_large n byte (omega (arith, with_digit_lem)))

      pub count_goes_on : 10 * n + d ≤ 4294967295 → Counting w (j + 1) (10 * n + d)
      count_goes_on h = record {
        word = omega arith;
        number = here ∙ digits_go_on n byte (drop (suc j) w) (a_digit n byte digit (omega (arith, with_digit_lem))) ∙ rw (with_digit_lem, add-one j);
      }
