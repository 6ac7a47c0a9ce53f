-- `level_line` puts where a level that was read was walked to, and what was met there. Assumes nothing.
use Rattle.trail_words.specs.Places.{line_start}
use Rattle.printing.specs.Grown.{grown_none, grown_as, grown_then}
use Rattle.why_levels.specs.Parts.{level_unread, level_read}
use Rattle.why_levels.proofs.level_line.Goals as goal

pub returns-then-trail-start-eq0-clause-grown : goal.returns-then-trail-start-eq0-clause-grown
unfolding line_start
returns-then-trail-start-eq0-clause-grown c =
    grown_as (level_unread c.args.trail.now c.args.level c.if-trail-start-eq0.true) grown_none

pub returns-clause-grown : goal.returns-clause-grown
unfolding line_start
returns-clause-grown c =
    grown_as (level_read c.args.trail.now c.args.level c.if-trail-start-eq0.false) (grown_then c.place_told.ensures.grown c.step_told.ensures.grown)
