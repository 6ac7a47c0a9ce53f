-- `named` puts a name, and then a number. Assumes nothing.
use Rattle.std.proofs.Common.{arith, ap}
use Rattle.printing.specs.Decimal.{word_digits}
use Rattle.printing.specs.Line.{named}
use Rattle.printing.specs.Grown.{grown_named, grown_as}
use Rattle.printing.proofs.Text.named.Goals as goal

pub number-requires : goal.number-requires
number-requires c = omega (arith, word_digits c.from.result (omega arith))

pub returns-clause-grown : goal.returns-clause-grown
returns-clause-grown c =
    let name = c.args.name.now in
    grown_as (ap (named name) c.from.ensures) (grown_named name c.from.result c.bytes.ensures c.number.ensures)

pub returns-clause-upper_bound : goal.returns-clause-upper_bound
returns-clause-upper_bound c = omega (arith, word_digits c.from.result (omega arith))
