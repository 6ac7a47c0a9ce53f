-- `level_entries` hands a level and the one below it, by their places, to `level_written`. Assumes nothing.
use native.Mathlib.Numerals.{add-one}
use Rattle.geometry.specs.Directory.{level_place}
use Rattle.written.specs.Inside.{level_places}
use Rattle.sound.proofs.level_entries.Goals as goal

pub level_written-requires : goal.level_written-requires
unfolding level_place
level_written-requires c =
    let s = c.args.store.now in
    let g = s.geometry in
    let w = s.words.now in
    let h = c.requires.le_level in
    rw (c.level_place-own.ensures, c.level_place-below.ensures, add-one c.args.level) (level_places g w s.lent.in_range_lem c.requires.store_value s.lent.exact c.args.level h.0 h.1)

pub returns : goal.returns
unfolding level_place
returns c = rw (c.level_place-own.ensures, c.level_place-below.ensures, add-one c.args.level) at c.level_written.ensures
