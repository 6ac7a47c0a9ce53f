use Rattle.std.proofs.Common.{arith, ◌∙◌}
use Rattle.edit.specs.Head.{moved_up, up_ends}
use Rattle.edit.proofs.Moves.{copied}
use Rattle.edit.proofs.put_in.Goals as goal

pub returns : goal.returns
unfolding moved_up
returns c =
    let a = c.args in
    let moved = c.copy_within.ensures.after ∙ copied a.words.now a.place a.end _ c.requires.place_le_end.0 (omega (arith, c.requires.place_le_end)) (omega (arith, c.requires.place_le_end)) in
    c.write_slot.ensures ∙ up_ends a.words.now a.end a.slot a.place _ moved
