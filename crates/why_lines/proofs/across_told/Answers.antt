-- `across_told` tells the number of pairs where the place is all zeros, else an entry. Assumes nothing.
use Rattle.printing.specs.Grown.{grown_as}
use Rattle.why_lines.specs.Parts.{across_live, across_kind}
use Rattle.why_lines.proofs.across_told.Goals as goal

pub returns-then-is_placeless-clause-grown : goal.returns-then-is_placeless-clause-grown
returns-then-is_placeless-clause-grown c =
    let f = c.args.fault in
    grown_as (across_live f.level f.page f.slot c.is_placeless.ensures c.if-is_placeless.true) c.bytes.ensures

pub returns-clause-grown : goal.returns-clause-grown
returns-clause-grown c =
    let f = c.args.fault in
    grown_as (across_kind f.level f.page f.slot c.is_placeless.ensures c.if-is_placeless.false) c.kind_told.ensures.grown
