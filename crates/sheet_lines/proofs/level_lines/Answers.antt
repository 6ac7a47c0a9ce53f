-- `level_lines` prints level by level: the lines so far, and then that of the next level. Assumes nothing.
use Rattle.std.proofs.Common.{refl, arith, length, ap, ◌∙◌, ◌≤◌, ◌+◌}
use Rattle.sheet_lines.specs.Named.{level_name_short}
use Rattle.sheet_lines.specs.Levels.{levels_begin, levels_go_on}
use Rattle.sheet_lines.proofs.level_lines.Goals as goal

pub loop-level-init : goal.loop-level-init
loop-level-init c =
    let start = c.args.text.now in
    (levels_begin start.room.now start.end c.args.levels c.args.counts, refl)

pub loop-level-preserved : goal.loop-level-preserved
loop-level-preserved c =
    let start = c.args.text.now in
    let l = c.loop-level in
    let told = rw c.from.ensures at (rw c.level_name.ensures at c.line.ensures.grown) in
    let short : c.line.new.self.end ≤ l.text.end + 28 = omega (arith, ap length c.level_name.ensures, level_name_short l.level) in
    (levels_go_on start.room.now start.end c.args.levels c.args.counts l.text.room.now l.text.end l.level l.invariant.0 c.requires.levels_bound (omega arith) _ _ told.printed short told.kept, told.same_room ∙ l.invariant.1)
