-- `writing_faults` tests the head's writing and then each level's. Assumes nothing.
use mathlib.Core.Path.{sym, ◌∙◌}
use Rattle.geometry.proofs.Lent.{head_room_at, head_least}
use Rattle.sound.specs.Levels.{head_written_lem, head_miswritten}
use native.Mathlib.Omega.{arith}
use Rattle.sound.proofs.writing_faults.Goals as goal

pub written_wrong-requires : goal.written_wrong-requires
written_wrong-requires c =
    let s = c.args.store.now in
    omega (arith, head_room_at s.geometry s.plan s.words.now s.lent, head_least s.geometry s.plan s.words.now s.lent)

pub returns-then-not-head_sound : goal.returns-then-not-head_sound
returns-then-not-head_sound c =
    let s = c.args.store.now in
    let g = s.geometry in
    let w = s.words.now in
    rw (c.written_wrong.ensures, head_room_at g s.plan w s.lent) (head_miswritten g w (sym c.head_sound.ensures ∙ c.if-not-head_sound.true) c.head_leaves.ensures)

pub returns : goal.returns
returns c =
    let s = c.args.store.now in
    let g = s.geometry in
    let w = s.words.now in
    c.levels_fault.ensures ∙ head_written_lem g w (sym c.head_sound.ensures ∙ c.if-not-head_sound.false)
