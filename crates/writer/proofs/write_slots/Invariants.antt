-- `write_slots` puts a level's slots in their places. The loop's invariant: `Going` at two spots (specs/Writing.antt). Assumes nothing.
use Rattle.std.proofs.Common.{◌+◌, length}
use Rattle.entries.specs.Spot.{upcoming}
use Rattle.writer.specs.Writing.{room_in, Going}
use Rattle.writer.proofs.write_slots.Given as goal

abbrev pub invariant-loop-entry : goal.invariant-loop-entry
invariant-loop-entry l =
    Going l.store l.source (room_in l.initial.work) l.work l.upper l.lower l.at.own l.at.fence

abbrev pub decreases-loop-entry : goal.decreases-loop-entry
decreases-loop-entry l =
    length (upcoming l.store l.source.upper l.upper) + length (upcoming l.store l.source.lower l.lower)
