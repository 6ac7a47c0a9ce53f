-- `wrong_line` puts the line of each kind of wrong input. Assumes nothing.
use Rattle.printing.specs.Grown.{grown_as}
use Rattle.why_input.specs.declared.Wrong.TheVariants.{Badge, Floor}
use Rattle.why_input.specs.Judging.{wrong_named}
use Rattle.why_input.proofs.wrong_line.Goals as goal

pub returns-in-Badge-clause-grown : goal.returns-in-Badge-clause-grown
returns-in-Badge-clause-grown c = grown_as (wrong_named c.args.wrong Badge c.in-Badge.is) c.bytes.ensures

pub returns-in-Floor-clause-grown : goal.returns-in-Floor-clause-grown
returns-in-Floor-clause-grown c = grown_as (wrong_named c.args.wrong Floor c.in-Floor.is) c.bytes-in-Floor.ensures
