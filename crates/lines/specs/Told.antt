-- What a reader's answer tells of the line at a place of the input. Assumes nothing.
use Rattle.std.specs.Prelude.{ℕ, ◌+◌, ◌-◌, ◌≤◌, ◌<◌, ◌≡◌, List, length, take, drop, Option as Answer, Some, None}
use Rattle.std.proofs.Math.Option.{Option, some, none}
use Rattle.lines.specs.Lines.{Line, lines_of, first_among, rest_of}

-- The lines from a place on.
abbrev pub ahead : List ℕ → ℕ → List Line
ahead w at = lines_of (drop at w)

-- A line was read: the next one begins at `next`, which is inside the input and more than `past` bytes further on.
pub record Onward (w : List ℕ) (at past next : ℕ) : Type 0 where
  pub follows : rest_of (ahead w at) ≡ ahead w next
  pub passes : at + past < next
  pub within : next ≤ length w

-- A number that a line was read as, or that it is faulty.
abbrev pub ReadAs : List ℕ → ℕ → ℕ → (Line → Option ℕ) → Answer (ℕ × ℕ) → Type 0
ReadAs w at past number (Some (n, next)) = (number (first_among (ahead w at)) ≡ some n) × Onward w at past next
ReadAs w at past number None = number (first_among (ahead w at)) ≡ none

-- The line at a place ends at the byte 10 at `end`; none does where `end` is the input's length.
pub record EndsAt (w : List ℕ) (at end : ℕ) : Type 0 where
  pub onward : at ≤ end
  pub within : end ≤ length w
  pub unended : end ≡ length w → first_among (ahead w at) ≡ none
  pub line : end < length w → first_among (ahead w at) ≡ some (take (end - at) (drop at w))
  pub rest : end < length w → rest_of (ahead w at) ≡ ahead w (end + 1)

-- The byte 10 that ends the line at a place, or that none does.
abbrev pub LineEnds : List ℕ → ℕ → Answer ℕ → Type 0
LineEnds w at (Some end) = (end < length w) × EndsAt w at end
LineEnds w at None = EndsAt w at (length w)

-- A number that bytes were read as, or that they are none.
abbrev pub NumeralAs : Option ℕ → Answer ℕ → Type 0
NumeralAs number (Some n) = number ≡ some n
NumeralAs number None = number ≡ none
