-- `level_lines` prints level by level: the lines so far, and then that of the next level. Assumes nothing.
use Rattle.std.proofs.Common.{◌≡◌}
use Rattle.sheet_lines.specs.Levels.{Levelling}
use Rattle.sheet_lines.proofs.level_lines.Given as goal

abbrev pub invariant-loop-level : goal.invariant-loop-level
invariant-loop-level l =
    let start = l.initial.text in
    Levelling start.room.now start.end l.levels l.counts l.text.room.now l.text.end l.level × (l.text.room.ghost_name ≡ start.room.ghost_name)
