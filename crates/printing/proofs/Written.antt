-- What is written, as the specification says it: bytes copied into a part of a buffer; and a number of 64 bits, as the library says it. Assumes nothing.
use Rattle.std.specs.Prelude.{ℕ, ◌+◌, ◌-◌, ◌%◌, ◌^◌, ◌≤◌, ◌<◌, ◌≡◌, refl, List, [], ◌∷◌, ◌++◌, length}
use Rattle.std.proofs.Common.{arith, sym, ap, ◌∙◌}
use Rattle.std.specs.Fmt.{decimal as library_decimal}
use Rattle.std.proofs.lemmas.Fmt.{decimal_by_steps}
use Rattle.std.proofs.lemmas.List.Edits.{sets, sets-eq}
use Rattle.std.proofs.lemmas.Slice.{put_mid-paste}
use borrow.Rule.Slice.PartMut.{put_mid}
use lib.Seq.{take-length}
use Rattle.printing.specs.Decimal.{decimal, digit_code, decimal_digit, decimal_more}

pub bytes_written : (w : List ℕ) (at : ℕ) (text now : List ℕ) → at + length text ≤ length w → now ≡ text →
    put_mid at (at + length text - at) w now ≡ sets w at text
bytes_written w at text now room same =
    let k : length text ≡ at + length text - at = omega arith in
    put_mid-paste at (at + length text - at) w now text (length text) same k refl ∙ rw (take-length text) (sym (sets-eq text w at room))

pub decimal_written : (n : ℕ) → n < 2 ^ 64 → decimal n ≡ library_decimal n
decimal_written = decimal_by_steps (λ n ds. decimal n ≡ ds) decimal_digit (λ n ds h e. decimal_more n h ∙ ap (λ xs. xs ++ digit_code (n % 10) ∷ []) e)
