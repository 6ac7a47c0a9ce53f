-- `make_calls` goes request by request: the text so far, and the text of those left behind it, are the text of the sheet. Assumes nothing.
use Rattle.std.proofs.Common.{◌-◌, ◌≡◌, length}
use Rattle.sheet_text.specs.Playing.{Playing}
use Rattle.sheet_text.proofs.make_calls.Given as goal

abbrev pub invariant-loop-at : goal.invariant-loop-at
invariant-loop-at l =
    let start = l.initial.text in
    Playing l.input l.heading.geometry start.room.now l.at l.text.end l.progress l.store l.work l.text.room.now ×
    ((length l.store ≡ length l.initial.store) × (l.text.room.ghost_name ≡ start.room.ghost_name))

abbrev pub decreases-loop-at : goal.decreases-loop-at
decreases-loop-at l = length l.input - l.at
