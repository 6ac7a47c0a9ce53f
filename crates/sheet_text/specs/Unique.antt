-- Two results that the promise of `run_sheet` allows are equal: every byte of the buffer, and the length told. Assumes nothing.
use Rattle.std.specs.Prelude.{ℕ, ◌≡◌, List, length}
use Rattle.printing.specs.Printed.{Printed, printed_once}
use Rattle.sheet_text.specs.Text.{printed_in}

pub run_sheet_has_one_text : (input out v u : List ℕ) (r s : ℕ) → Printed out 0 (printed_in (length out) input) v r →
    Printed out 0 (printed_in (length out) input) u s → (v ≡ u) × (r ≡ s)
run_sheet_has_one_text input out v u r s p q = printed_once p q
