-- `read_digits` reads digit by digit: the number so far and the bytes left tell the number. Assumes nothing.
use Rattle.std.proofs.Common.{◌+◌, ◌*◌, ◌≡◌, refl, arith}
use Rattle.std.proofs.lemmas.Bool.{not_from_false, not_from_true}
use Rattle.laws.specs.Tests.{told_no, told_past}
use Rattle.lines.specs.Number.{digit_within}
use Rattle.lines.specs.Counting.{count_ends, count_stops, count_overflows, count_goes_on}
use Rattle.lines.proofs.read_digits.Goals as goal

pub returns-then-not-is_digit : goal.returns-then-not-is_digit
returns-then-not-is_digit c =
    count_stops c.args.bytes.now c.loop-byte.byte-index c.loop-byte.n c.loop-byte.invariant (omega arith) (told_no _ _ c.is_digit.ensures (not_from_false _ c.if-not-is_digit.true))

pub overflow_sub-byte : goal.overflow_sub-byte
overflow_sub-byte c = (digit_within _ (told_past _ _ c.is_digit.ensures (not_from_true _ c.if-not-is_digit.false))).0

pub returns-in_err-checked_mul : goal.returns-in_err-checked_mul
returns-in_err-checked_mul c =
    let l = c.loop-byte in
    let digit = told_past _ _ c.is_digit.ensures (not_from_true _ c.if-not-is_digit.false) in
    let much = rw c.in_err-checked_mul.was at c.checked_mul.ensures in
    rw c.from_residual.ensures (count_overflows c.args.bytes.now l.byte-index l.n l.invariant (omega arith) digit _ refl (omega arith))

pub returns-in_err-n : goal.returns-in_err-n
returns-in_err-n c =
    let l = c.loop-byte in
    let digit = told_past _ _ c.is_digit.ensures (not_from_true _ c.if-not-is_digit.false) in
    let tens = rw c.in_ok-checked_mul.was at c.checked_mul.ensures in
    let much = rw c.in_err-n.was at c.checked_add.ensures in
    rw c.from_residual-in_err-n.ensures (count_overflows c.args.bytes.now l.byte-index l.n l.invariant (omega arith) digit c.from.result c.from.ensures (omega arith))

pub loop-byte-preserved : goal.loop-byte-preserved
loop-byte-preserved c =
    let l = c.loop-byte in
    let digit = told_past _ _ c.is_digit.ensures (not_from_true _ c.if-not-is_digit.false) in
    let tens = rw c.in_ok-checked_mul.was at c.checked_mul.ensures in
    let sum = rw c.in_ok-n.was at c.checked_add.ensures in
    let whole : c.in_ok-n.n ≡ 10 * l.n + c.from.result = omega arith in
    rw whole (count_goes_on c.args.bytes.now l.byte-index l.n l.invariant (omega arith) digit c.from.result c.from.ensures (omega arith))

pub returns : goal.returns
returns c = count_ends c.args.bytes.now c.loop-byte.byte-index c.loop-byte.n c.loop-byte.invariant (omega arith)
