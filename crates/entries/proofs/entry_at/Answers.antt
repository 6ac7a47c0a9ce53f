-- `entry_at` gives the index entry that stands at a spot, from what its slot shows. Assumes nothing.
use Rattle.entries.specs.Spot.{entry_inside, entry_upcoming, next_fits}
use Rattle.entries.proofs.entry_at.Goals as goal

pub read_slot-slot-requires : goal.read_slot-slot-requires
read_slot-slot-requires c =
    let a = c.args in
    let asked = c.requires in
    entry_inside a.words.now a.run a.spot _ asked.inside asked.standing asked.spot_bound _ _ c.cursor_at-cursor.ensures c.place_in.ensures

pub returns : goal.returns
returns c =
    let a = c.args in
    let asked = c.requires in record {
      told = entry_upcoming a.words.now a.run a.spot _ asked.inside asked.standing asked.spot_bound _ _ c.cursor_at-cursor.ensures c.place_in.ensures _ _
          c.read_slot-slot.ensures c.is_normal.ensures;
      fits = next_fits a.words.now a.run a.spot _ asked.inside asked.standing asked.spot_bound;
    }
