-- `head_written` decides whether the head is its writing: its row is, and what is behind is unused. Assumes nothing.
use mathlib.Core.Path.{sym, ◌∙◌}
use Rattle.written.specs.Decided.{head_row, head_row_inside, head_decided, head_counts}
use Rattle.written.proofs.head_written.Goals as goal

pub invariant_of-in_room : goal.invariant_of-in_room
unfolding head_row
invariant_of-in_room c = record { inside = head_row_inside _ _ _ _ _ c.requires }

pub returns-clause-exact : goal.returns-clause-exact
unfolding head_row
returns-clause-exact c =
    let a = c.args in
    c.in_room.ensures.exact ∙ sym (head_decided _ _ _ _ a.below c.requires)

pub returns-clause-counted : goal.returns-clause-counted
unfolding head_row
returns-clause-counted c =
    let a = c.args in
    rw (← head_counts a.words.now a.start a.room a.count a.below c.requires) c.in_room.ensures.counted
