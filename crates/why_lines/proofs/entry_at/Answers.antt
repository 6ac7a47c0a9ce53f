-- `entry_at` reads the entry in the line of a level. Where there is no such line, there is no such word. Assumes nothing.
use Rattle.why_lines.specs.Parts.{entry_within, entry_beyond}
use Rattle.trail_words.specs.Places.{line_start}
use Rattle.why_lines.proofs.entry_at.Goals as goal

pub returns-then-level-ge-LEVELS : goal.returns-then-level-ge-LEVELS
returns-then-level-ge-LEVELS c = entry_beyond c.args.trail.now c.args.level c.if-level-ge-LEVELS.true

pub returns : goal.returns
unfolding line_start
returns c = entry_within c.args.trail.now c.args.level c.if-level-ge-LEVELS.false
