-- `head_sound` tests the writing of the head, which is right, by `head_sound_parts`. Assumes nothing.
use mathlib.Core.Path.{◌∙◌}
use Rattle.geometry.specs.Directory.{level_place}
use Rattle.geometry.proofs.Lent.{head_room_at}
use Rattle.written.specs.Parts.{head_sound_parts}
use Rattle.written.specs.Inside.{head_places}
use Rattle.sound.proofs.head_sound.Goals as goal

pub head_written-requires : goal.head_written-requires
unfolding level_place
head_written-requires c =
    let s = c.args.store.now in
    let g = s.geometry in
    let w = s.words.now in
    rw (head_room_at g s.plan w s.lent, c.level_place-below.ensures) (head_places g w s.lent.in_range_lem c.requires.store_value s.lent.exact c.requires.store_value_2)

pub returns : goal.returns
unfolding level_place
returns c =
    let s = c.args.store.now in
    let g = s.geometry in
    let w = s.words.now in
    c.is_some.ensures ∙ c.head_written.ensures.exact ∙
    rw (head_sound_parts g w, c.requires.store_value_2, head_room_at g s.plan w s.lent, c.level_place-below.ensures)
