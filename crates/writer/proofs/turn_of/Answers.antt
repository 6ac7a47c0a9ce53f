-- `turn_of` decides by which of the runs have ended, and then by their entries (specs/Joining.antt). Assumes nothing.
use mathlib.Core.Path.{sym, ◌∙◌}
use Rattle.writer.specs.Joining.{turn_neither, turn_lower, turn_upper, turn_two}
use Rattle.writer.proofs.turn_of.Goals as goal

pub returns-in-true-true : goal.returns-in-true-true
returns-in-true-true c = turn_neither _ _ _ _ c.requires.source_inside c.requires.ready (sym (c.in-true-true.ensures)) (sym (c.in-true-true.ensures'))

pub returns-in-true-false : goal.returns-in-true-false
returns-in-true-false c = turn_lower _ _ _ _ c.requires.source_inside c.requires.ready (sym (c.in-true-false.ensures)) (sym (c.in-true-false.ensures'))

pub returns-in-false-true : goal.returns-in-false-true
returns-in-false-true c = turn_upper _ _ _ _ c.requires.source_inside c.requires.ready (sym (c.in-false-true.ensures)) (sym (c.in-false-true.ensures'))

pub returns-in-false-false : goal.returns-in-false-false
returns-in-false-false c = turn_two _ _ _ _ _ _ _ _ _ c.turn_of_two.ensures c.entry_at-high.ensures.told c.entry_at-low.ensures.told
