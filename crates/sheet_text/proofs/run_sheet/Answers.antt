-- `run_sheet` prints the text of the sheet where the buffer has room. Assumes nothing.
use Rattle.std.proofs.Common.{arith, rules}
use Rattle.sheet_text.specs.Buffer.{prints_nothing, prints}
use Rattle.sheet_text.proofs.run_sheet.Goals as goal

pub returns-then-out-lt-TEXT_ROOM : goal.returns-then-out-lt-TEXT_ROOM
returns-then-out-lt-TEXT_ROOM c = record {
  text = prints_nothing c.args.input.now c.args.out.now (omega (arith, c.if-out-lt-TEXT_ROOM.true));
  fits = omega arith;
}

pub returns : goal.returns
returns c =
    let grown = c.print_sheet.ensures.grown in
    let same = grown.same_room in
    let fits = c.print_sheet.ensures.fits in
    let whole = prints c.args.input.now c.args.out.now (omega (arith, c.if-out-lt-TEXT_ROOM.false)) (record { printed = grown.printed; fits = fits }) in
    search rules
