-- `line` puts a name, a number and byte 10, one behind the other. Assumes nothing.
use Rattle.std.proofs.Common.{arith}
use Rattle.printing.specs.Line.{line_length, line_short}
use Rattle.printing.specs.Grown.{grown_line}
use Rattle.printing.proofs.Text.line.Goals as goal

pub number-requires : goal.number-requires
number-requires c = omega (arith, line_length c.args.name.now c.args.n, line_short c.args.name.now c.args.n (omega arith))

pub bytes-requires-2 : goal.bytes-requires-2
bytes-requires-2 c = omega (arith, line_length c.args.name.now c.args.n, line_short c.args.name.now c.args.n (omega arith))

pub returns-clause-grown : goal.returns-clause-grown
returns-clause-grown c = grown_line c.args.name.now c.args.n c.bytes.ensures c.number.ensures c.bytes-2.ensures

pub returns-clause-upper_bound : goal.returns-clause-upper_bound
returns-clause-upper_bound c = omega (arith, line_length c.args.name.now c.args.n, line_short c.args.name.now c.args.n (omega arith))
