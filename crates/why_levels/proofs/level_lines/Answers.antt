-- `level_lines` puts level by level: the lines so far, and then that of the next level. Assumes nothing.
use Rattle.std.proofs.Common.{arith}
use Rattle.why_levels.specs.Levels.{levels_begin, levels_go_on}
use Rattle.why_levels.proofs.level_lines.Goals as goal

pub loop-level-init : goal.loop-level-init
loop-level-init c = levels_begin c.args.text.now c.args.trail.now

pub level_line-requires-clause-room : goal.level_line-requires-clause-room
level_line-requires-clause-room c = omega (arith, c.loop-level.invariant.short, c.loop-level.invariant.grown.kept)

pub loop-level-preserved : goal.loop-level-preserved
loop-level-preserved c =
    let l = c.loop-level in
    let told = c.level_line.ensures in
    levels_go_on c.args.text.now c.args.trail.now _ l.level l.invariant (omega arith) _ told.grown told.upper_bound
