-- `last_lines` prints the live pairs, the levels and the pages, one behind the other. Assumes nothing.
use Rattle.std.proofs.Common.{ap}
use Rattle.printing.specs.Grown.{grown_as}
use Rattle.printing.specs.Line.{line}
use Rattle.sheet_lines.specs.Lines.{live_name}
use Rattle.sheet_lines.specs.Levels.{last_grown}
use Rattle.sheet_lines.proofs.last_lines.Goals as goal

pub returns-clause-grown : goal.returns-clause-grown
returns-clause-grown c =
    let first = grown_as (ap (line live_name) c.from.ensures) c.line.ensures.grown in
    last_grown c.args.levels c.args.live c.args.counts c.args.pages first c.level_lines.ensures.grown c.line-2.ensures.grown
