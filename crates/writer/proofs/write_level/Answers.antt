-- `write_level` writes a level, from what `start_level` and `write_slots` ensure; the area keeps its room. Assumes nothing.
use mathlib.Core.Path.{◌≡◌, sym, ap, ◌∙◌}
use mathlib.Core.List.{[]}
use Rattle.rules.specs.Store.{level_words}
use Rattle.writer.specs.Source.{level_from}
use Rattle.writer.specs.Writing.{room_in, room_started}
use native.Mathlib.Omega.{arith}
use borrow.Author.Rules.{rules}
use Rattle.writer.proofs.write_level.Goals as goal

pub start_level-requires : goal.start_level-requires
start_level-requires c = c.requires.whole_pages

pub write_slots-requires : goal.write_slots-requires
write_slots-requires c =
    let a = c.args in
    let pre = c.requires in
    let start-level = c.start_level in
    let room : room_in start-level.new.work ≡ room_in a.work.now = room_started a.work.now start-level.new.work start-level.ensures in record {
      source_inside = pre.source_inside;
      source_ascends = pre.source_ascends;
      work_value = start-level.ensures ∙ ap (level_words []) (sym room);
      work_bound = omega (arith, room, pre.whole_pages.few);
      source_len_bound = omega (arith, room, pre.source_len_bound);
    }

pub returns : goal.returns
returns c =
    let a = c.args in
    let start-level = c.start_level in
    let write-slots = c.write_slots in
    let room : room_in start-level.new.work ≡ room_in a.work.now = room_started a.work.now start-level.new.work start-level.ensures in record {
      area = write-slots.ensures.area ∙ ap (level_words (level_from a.store.now a.source)) room;
      count = write-slots.ensures.count;
    }
