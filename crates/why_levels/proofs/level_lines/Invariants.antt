-- `level_lines` puts level by level: the lines so far, and then that of the next level. Assumes nothing.
use Rattle.why_levels.specs.Levels.{Levelling}
use Rattle.why_levels.proofs.level_lines.Given as goal

abbrev pub invariant-loop-level : goal.invariant-loop-level
invariant-loop-level l = Levelling l.initial.text l.trail l.text l.level
