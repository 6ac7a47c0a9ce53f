-- `read_numeral` tells the number that bytes are: none, one behind a zero, or any other by its digits. Assumes nothing.
use Rattle.std.proofs.Common.{arith, tests, length, slice_index_or, ◌≡◌, ◌<◌}
use Rattle.lines.specs.Number.{numeral_none, numeral_one, numeral_padded, numeral_digits}
use Rattle.lines.proofs.read_numeral.Goals.{in_default-via-then-bytes-lt2, in_default-via-else-bytes-lt2+in_default-1}
use Rattle.lines.proofs.read_numeral.Goals as goal

pub returns-in_default : goal.returns-in_default
returns-in_default c =
    elim c.in_default.branch [
      | in_default-via-then-bytes-lt2 w ↦
          let one : length c.args.bytes.now ≡ 1 = grind (arith, tests) in
          rw (numeral_one c.args.bytes.now one) c.read_digits.ensures
      | in_default-via-else-bytes-lt2+in_default-1 w ↦
          let more : 0 < length c.args.bytes.now = grind (arith, tests) in
          let other : slice_index_or c.args.bytes.now 0 0 ≡ 48 → ⊥ = λ e. grind (arith, tests) in
          rw (numeral_digits c.args.bytes.now more other) c.read_digits.ensures
    ]

pub returns-in-empty : goal.returns-in-empty
returns-in-empty c = numeral_none c.args.bytes.now (omega arith)

pub returns-in-empty-2 : goal.returns-in-empty-2
returns-in-empty-2 c = numeral_padded c.args.bytes.now (omega arith) (omega arith)
