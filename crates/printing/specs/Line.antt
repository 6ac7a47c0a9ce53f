-- A name with a number in decimal behind it, and a line of these, which byte 10 ends. Assumes nothing.
use Rattle.std.specs.Prelude.{ℕ, ◌+◌, ◌≤◌, ◌<◌, ◌≡◌, List, [], ◌∷◌, ◌++◌, length}
use Rattle.std.proofs.Common.{arith, ◌∙◌, length-append}
use Rattle.printing.specs.Decimal.{decimal, two_digits, word_digits, long_digits}
use Rattle.printing.specs.Printed.{Printed, printed_then}

-- What a number of 64 bits and the end of its line take at most: twenty digits and byte 10.
abbrev pub number_room : ℕ
number_room = 21

unfoldable pub line : List ℕ → ℕ → List ℕ
line name n = name ++ (decimal n ++ 10 ∷ [])

-- A line has its name's bytes, the number's digits and byte 10.
pub line_length : (name : List ℕ) (n : ℕ) → length (line name n) ≡ length name + (length (decimal n) + 1)
unfolding line
line_length name n = length-append name (decimal n ++ 10 ∷ []) ∙ rw (length-append (decimal n) (10 ∷ []))

-- A number below 100 has two digits at most, and one of 64 bits twenty.
pub line_two : (name : List ℕ) (n : ℕ) → n < 100 → length (line name n) ≤ length name + 3
line_two name n h = omega (arith, line_length name n, two_digits n h)

pub line_short : (name : List ℕ) (n : ℕ) → n < 18446744073709551616 → length (line name n) ≤ length name + number_room
line_short name n h = omega (arith, line_length name n, long_digits n h)

-- The three parts of a line, put into a buffer one behind the other, are the line.
pub line_printed : (w : List ℕ) (at : ℕ) (name : List ℕ) (n : ℕ) {v u x : List ℕ} {named end last : ℕ} → Printed w at name v named →
    Printed v named (decimal n) u end → Printed u end (10 ∷ []) x last → Printed w at (line name n) x last
unfolding line
line_printed w at name n p q r = printed_then p (printed_then q r)

-- A name and a number of 32 bits, which has ten digits at most.
abbrev pub digits_room : ℕ
digits_room = 10

unfoldable pub named : List ℕ → ℕ → List ℕ
named name n = name ++ decimal n

pub named_short : (name : List ℕ) (n : ℕ) → n < 4294967296 → length (named name n) ≤ length name + digits_room
unfolding named
named_short name n h = omega (arith, length-append name (decimal n), word_digits n h)

pub named_printed : (w : List ℕ) (at : ℕ) (name : List ℕ) (n : ℕ) {v u : List ℕ} {middle end : ℕ} → Printed w at name v middle →
    Printed v middle (decimal n) u end → Printed w at (named name n) u end
unfolding named
named_printed w at name n p q = printed_then p q
