-- `call_line` prints the number under the operation's name. Assumes nothing.
use Rattle.std.proofs.Common.{length, ap, arith}
use Rattle.printing.specs.Line.{line_two}
use Rattle.sheet_lines.specs.Named.{name_short}
use Rattle.sheet_lines.proofs.call_line.Goals as goal

pub returns-clause-upper_bound : goal.returns-clause-upper_bound
returns-clause-upper_bound c =
    let name = c.name_of.result.now in
    omega (arith, line_two name c.args.told c.requires.told_bound, ap length c.name_of.ensures, name_short c.args.operation)
