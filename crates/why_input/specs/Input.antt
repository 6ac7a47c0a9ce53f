-- What the input of the tool is judged as, and the line for what is wrong with it. Assumes nothing.
use Rattle.std.specs.Prelude.{ℕ, ◌%◌, ◌≤◌, cond, List, length, ltb, eqb, Result, Ok, Err}
use Rattle.std.proofs.Math.Option.{Option, some, none}
use Rattle.slot.specs.declared.Pair.{Pair}
use Rattle.slot.specs.Pair.{pair}
use Rattle.chip.specs.Bytes.{word_bytes}
use Rattle.printing.specs.Text.{bytes_of}
use Rattle.lines.specs.Number.{numeral}
use Rattle.why_input.specs.declared.Wrong.{Wrong}
use Rattle.why_input.specs.declared.Wrong.TheVariants.{Badge, Floor, Long, Uneven}

-- The pair asked for, or what is wrong with the input.
abbrev pub Judged : Type 0
Judged = Result Pair Wrong

abbrev pub wrong_text : Wrong → List ℕ
wrong_text Badge = bytes_of "why: the badge is no number from 0 to 4294967295\n"
wrong_text Floor = bytes_of "why: the floor is no number from 0 to 4294967295\n"
wrong_text Long = bytes_of "why: the chip has more than 492352 bytes\n"
wrong_text Uneven = bytes_of "why: the chip's bytes are no multiple of four\n"

-- Each of these lines fits into 49 bytes.
abbrev pub wrong_room : ℕ
wrong_room = 49

-- The most bytes of a chip.
abbrev pub most_bytes : ℕ
most_bytes = 492352

-- The badge is judged first, then the floor, then how many bytes the chip has, and then whether they make whole words.
unfoldable pub with_chip : Pair → List ℕ → Judged
with_chip p chip = cond (ltb most_bytes (length chip)) (Err Long) (cond (eqb (length chip % word_bytes) 0) (Ok p) (Err Uneven))

abbrev pub with_floor : ℕ → Option ℕ → List ℕ → Judged
with_floor b (some f) chip = with_chip (pair b f) chip
with_floor b none chip = Err Floor

abbrev pub with_badge : Option ℕ → List ℕ → List ℕ → Judged
with_badge (some b) floor chip = with_floor b (numeral floor) chip
with_badge none floor chip = Err Badge

unfoldable pub judged_input : List ℕ → List ℕ → List ℕ → Judged
judged_input badge floor chip = with_badge (numeral badge) floor chip

-- The chip of good input is not too long.
abbrev pub ShortIfGood : List ℕ → Judged → Type 0
ShortIfGood chip (Ok p) = length chip ≤ most_bytes
ShortIfGood chip (Err wrong) = Unit {0}
