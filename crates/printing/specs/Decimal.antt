-- A number in decimal: the ASCII codes of its digits, the most significant first, without leading zeros. Assumes nothing.
use Rattle.std.specs.Prelude.{ℕ, zero, suc, ◌+◌, ◌*◌, ◌/◌, ◌%◌, ◌^◌, ◌≤◌, ◌<◌, ◌≡◌, refl, Bool, true, false, List, [], ◌∷◌, ◌++◌, ltb, length}
use Rattle.std.proofs.Common.{pow-suc, arith, sym, ap, ◌∙◌, lt-ltb, le-ltb, ltb-true, ltb-false, length-append}

-- The code of a digit.
abbrev pub digit_code : ℕ → ℕ
digit_code d = 48 + d

-- The last digits of n, as many as it has, up to a given number of them.
unfoldable pub last_digits : ℕ → ℕ → List ℕ
last_digits zero n = []
last_digits (suc most) n = elim (ltb n 10) [
  | true ↦ digit_code n ∷ []
  | false ↦ last_digits most (n / 10) ++ digit_code (n % 10) ∷ []
]

-- A number has no more digits than one more than itself.
unfoldable pub decimal : ℕ → List ℕ
decimal n = last_digits (suc n) n

-- One digit is itself, and of more the last is the remainder by ten.
last_digit : (most n : ℕ) → n < 10 → last_digits (suc most) n ≡ digit_code n ∷ []
unfolding last_digits
last_digit most n h = rw (lt-ltb n 10 h, last_digits)

last_digits_lem : (most n : ℕ) → 10 ≤ n → last_digits (suc most) n ≡ last_digits most (n / 10) ++ digit_code (n % 10) ∷ []
unfolding last_digits
last_digits_lem most n h = rw (le-ltb n 10 h, last_digits)

-- It does not matter how many more digits are allowed than a number can have.
digits_enough : (a b n : ℕ) → n < a → n < b → last_digits a n ≡ last_digits b n
digits_enough zero b n h k = absurd (omega arith)
digits_enough (suc a) zero n h k = absurd (omega arith)
digits_enough (suc a) (suc b) n h k = picked (ltb n 10) refl (digits_enough a b (n / 10))
  where
    picked : (t : Bool) → ltb n 10 ≡ t → (n / 10 < a → n / 10 < b → last_digits a (n / 10) ≡ last_digits b (n / 10)) →
        last_digits (suc a) n ≡ last_digits (suc b) n
    picked true e ih = last_digit a n (ltb-true n 10 e) ∙ sym (last_digit b n (ltb-true n 10 e))
    picked false e ih =
        let tens : 10 ≤ n = ltb-false n 10 e in
        rw (last_digits_lem a n tens, last_digits_lem b n tens, ih (omega arith) (omega arith))

-- A number below ten is one digit; any other is a tenth of it, and then its last digit.
pub decimal_digit : (n : ℕ) → n < 10 → decimal n ≡ digit_code n ∷ []
unfolding decimal
decimal_digit n h = last_digit n n h

pub decimal_more : (n : ℕ) → 10 ≤ n → decimal n ≡ decimal (n / 10) ++ digit_code (n % 10) ∷ []
unfolding decimal
decimal_more n h = rw (last_digits_lem n n h, digits_enough n (suc (n / 10)) (n / 10) (omega arith) (omega arith))

pub length_digit : (n : ℕ) → n < 10 → length (decimal n) ≡ 1
length_digit n h = ap length (decimal_digit n h)

pub length_more : (n : ℕ) → 10 ≤ n → length (decimal n) ≡ length (decimal (n / 10)) + 1
length_more n h = ap length (decimal_more n h) ∙ length-append (decimal (n / 10)) (digit_code (n % 10) ∷ [])

-- Below a power of ten there are no more digits than its exponent; so a number below 100 has two at most, one of 32 bits ten, and one of 64 bits twenty.
digits_below : (k n : ℕ) → n < 10 ^ suc k → length (decimal n) ≤ suc k
digits_below zero n h = omega (arith, length_digit n h)
digits_below (suc k) n h = picked (ltb n 10) refl (digits_below k (n / 10))
  where
    picked : (t : Bool) → ltb n 10 ≡ t → (n / 10 < 10 ^ suc k → length (decimal (n / 10)) ≤ suc k) → length (decimal n) ≤ suc (suc k)
    picked true e ih = omega (arith, length_digit n (ltb-true n 10 e))
    picked false e ih =
        let power : 10 ^ suc (suc k) ≡ 10 ^ suc k * 10 = pow-suc 10 (suc k) in
        let fewer : length (decimal (n / 10)) ≤ suc k = ih (omega arith) in
        omega (arith, length_more n (ltb-false n 10 e))

pub two_digits : (n : ℕ) → n < 100 → length (decimal n) ≤ 2
two_digits n h = digits_below 1 n (omega arith)

pub word_digits : (n : ℕ) → n < 4294967296 → length (decimal n) ≤ 10
word_digits n h = digits_below 9 n (omega arith)

pub long_digits : (n : ℕ) → n < 18446744073709551616 → length (decimal n) ≤ 20
long_digits n h = digits_below 19 n (omega arith)
