-- What the buffer gets: nothing where it is too short, the number of the first faulty line, or the text of a sheet without fault. Assumes nothing.
use Rattle.std.specs.Prelude.{ℕ, ◌≤◌, ◌<◌, ◌≡◌, List, length}
use Rattle.std.proofs.Common.{ap, sym, le-leb}
use Rattle.std.proofs.lemmas.Bool.{lt-leb}
use Rattle.printing.specs.Printed.{Printed, printed_none}
use Rattle.printing.specs.Line.{line}
use Rattle.lines.specs.Judged.{faulty}
use Rattle.reading.specs.Sheet.{judged}
use Rattle.sheet_lines.specs.Lines.{fault_name}
use Rattle.sheet_text.specs.Text.{judged_text, sheet_of, text_room, printed_in}
use Rattle.sheet_text.specs.Playing.{Within}

module _ (input out : List ℕ) where
  pub prints_nothing : length out < text_room → Printed out 0 (printed_in (length out) input) out 0
  unfolding printed_in
  prints_nothing h = rw (lt-leb text_room (length out) h, printed_in) printed_none

  module _ (roomy : text_room ≤ length out) where
    pub prints : {v : List ℕ} {end : ℕ} → Within out (sheet_of input) v end → Printed out 0 (printed_in (length out) input) v end
    unfolding printed_in
    prints p = rw (le-leb text_room (length out) roomy, printed_in) p.printed

    pub prints_line : (n : ℕ) {v : List ℕ} {end : ℕ} → judged input ≡ faulty n → Printed out 0 (line fault_name n) v end → Printed out 0 (printed_in (length out) input) v end
    unfolding printed_in sheet_of
    prints_line n e p = rw (le-leb text_room (length out) roomy, printed_in) (rw (ap judged_text e) p)

-- The text of a sheet with a fault is the number of its first faulty line.
pub faulty_text : (input : List ℕ) (n : ℕ) → judged input ≡ faulty n → line fault_name n ≡ sheet_of input
unfolding sheet_of
faulty_text input n e = sym (ap judged_text e)
