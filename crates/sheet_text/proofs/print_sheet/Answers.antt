-- `print_sheet` puts the text of a sheet without fault, or the number of the first faulty line. Assumes nothing.
use Rattle.std.proofs.Common.{arith}
use Rattle.printing.specs.Grown.{grown_as}
use Rattle.sheet_text.specs.Buffer.{faulty_text}
use Rattle.sheet_text.proofs.print_sheet.Goals as goal

pub run_judged-requires : goal.run_judged-requires
run_judged-requires c = record {
  ready = rw c.in-Ok.is at c.judge.ensures;
  at_start = c.requires.at_start;
  text_room_in_bounds = c.requires.text_room_in_bounds;
}

pub returns-in-Err : goal.returns-in-Err
returns-in-Err c = record {
  grown = grown_as (faulty_text c.args.input.now _ (rw c.in-Err.is at c.judge.ensures)) c.fault_line.ensures.grown;
  fits = omega (arith, c.fault_line.ensures.upper_bound, c.requires.at_start, c.requires.text_room_in_bounds);
}
