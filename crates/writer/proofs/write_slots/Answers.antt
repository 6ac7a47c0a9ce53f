-- `write_slots` puts a level's slots in their places. The loop's invariant: `Going` at two spots (specs/Writing.antt). Assumes nothing.
use Prim.Native.Nat.{◌+◌}
use mathlib.Core.Path.{ap}
use mathlib.Core.List.{[]}
use lib.ListN.{length}
use Rattle.entries.specs.Spot.{upcoming}
use Rattle.writer.specs.Joining.{from_upper, from_lower, upper_there, lower_there, upper_comes, lower_comes, upper_past, lower_past}
use Rattle.writer.specs.Append.{level_length}
use Rattle.writer.specs.Writing.{room_in, Going, going_begins, going_room, going_ends, going_cancels, next_room, next_put}
use borrow.Author.Rules.{rules}
use native.Mathlib.Omega.{arith}
use Rattle.laws.specs.Clauses.{two_clauses}
use Rattle.writer.proofs.write_slots.Goals as goal

pub spot_from-upper-requires : goal.spot_from-upper-requires
spot_from-upper-requires c = c.requires.source_inside.upper_inside

pub spot_from-lower-requires : goal.spot_from-lower-requires
spot_from-lower-requires c = c.requires.source_inside.lower_inside

pub loop-entry-init : goal.loop-entry-init
loop-entry-init c =
    let asked = c.requires in
    let spot-from = c.spot_from-upper in
    going_begins _ _ _ _ _ _ asked.work_value asked.source_len_bound asked.source_ascends spot-from.ensures c.spot_from-lower.ensures

pub turn_of-requires : goal.turn_of-requires
turn_of-requires c = record {
  source_inside = c.requires.source_inside;
  ready = c.loop-entry.invariant.ready;
}

pub entry_at-entry-requires : goal.entry_at-entry-requires
entry_at-entry-requires c =
    let asked = c.requires in
    let loop = c.loop-entry in
    let turn-of = c.turn_of in record {
      inside = asked.source_inside.upper_inside;
      standing = loop.invariant.ready.upper_stands;
      spot_bound = upper_there _ _ _ _ _ turn-of.ensures (ap from_upper c.in-Upper.is);
    }

pub past-upper-requires : goal.past-upper-requires
past-upper-requires c =
    let asked = c.requires in
    let loop = c.loop-entry in
    let turn-of = c.turn_of in record {
      inside = asked.source_inside.upper_inside;
      standing = loop.invariant.ready.upper_stands;
      spot_bound = upper_there _ _ _ _ _ turn-of.ensures (ap from_upper c.in-Upper.is);
    }

pub loop-entry-smaller-in-Upper : goal.loop-entry-smaller-in-Upper
loop-entry-smaller-in-Upper c = omega (arith, c.past-upper.ensures.fewer)

pub entry_at-entry-requires-in-Lower : goal.entry_at-entry-requires-in-Lower
entry_at-entry-requires-in-Lower c =
    let asked = c.requires in
    let loop = c.loop-entry in
    let turn-of = c.turn_of in record {
      inside = asked.source_inside.lower_inside;
      standing = loop.invariant.ready.lower_stands;
      spot_bound = lower_there _ _ _ _ _ turn-of.ensures (ap from_lower c.in-Lower.is);
    }

pub past-lower-requires : goal.past-lower-requires
past-lower-requires c =
    let asked = c.requires in
    let loop = c.loop-entry in
    let turn-of = c.turn_of in record {
      inside = asked.source_inside.lower_inside;
      standing = loop.invariant.ready.lower_stands;
      spot_bound = lower_there _ _ _ _ _ turn-of.ensures (ap from_lower c.in-Lower.is);
    }

pub loop-entry-smaller-in-Lower : goal.loop-entry-smaller-in-Lower
loop-entry-smaller-in-Lower c = omega (arith, c.past-lower.ensures.fewer)

pub past-upper-requires-in-Both : goal.past-upper-requires-in-Both
past-upper-requires-in-Both c =
    let asked = c.requires in
    let loop = c.loop-entry in
    let turn-of = c.turn_of in record {
      inside = asked.source_inside.upper_inside;
      standing = loop.invariant.ready.upper_stands;
      spot_bound = upper_there _ _ _ _ _ turn-of.ensures (ap from_upper c.in-Both.is);
    }

pub past-lower-requires-in-Both : goal.past-lower-requires-in-Both
past-lower-requires-in-Both c =
    let asked = c.requires in
    let loop = c.loop-entry in
    let turn-of = c.turn_of in record {
      inside = asked.source_inside.lower_inside;
      standing = loop.invariant.ready.lower_stands;
      spot_bound = lower_there _ _ _ _ _ turn-of.ensures (ap from_lower c.in-Both.is);
    }

pub loop-entry-smaller : goal.loop-entry-smaller
loop-entry-smaller c = omega (arith, c.past-upper-in-Both.ensures.fewer, c.past-lower-in-Both.ensures.fewer)

pub loop-entry-preserved : goal.loop-entry-preserved
loop-entry-preserved c =
    let loop = c.loop-entry in
    let turn-of = c.turn_of in
    let past3 = c.past-upper-in-Both in
    going_cancels _ _ _ _ _ _ _ _ loop.invariant _ turn-of.ensures c.in-Both.is _ _ past3.ensures c.past-lower-in-Both.ensures

pub put_fences-requires : goal.put_fences-requires
put_fences-requires c =
    let asked = c.requires in
    let loop = c.loop-entry in record {
      source_inside = asked.source_inside;
      room_for = going_room _ _ _ _ _ _ _ _ loop.invariant asked.source_len_bound asked.work_bound;
      fence_le_below = loop.invariant.fence_most;
    }

pub returns-in-Neither : goal.returns-in-Neither
returns-in-Neither c =
    let loop = c.loop-entry in
    let turn-of = c.turn_of in
    let put-fences = c.put_fences in
    two_clauses (λ v0 v1. record { area = v0; count = v1 }) (going_ends _ _ _ _ _ _ _ _ loop.invariant _ turn-of.ensures c.in-Neither.is _ _ put-fences.ensures)

pub put_next-at-requires : goal.put_next-at-requires
put_next-at-requires c =
    let asked = c.requires in
    let going = c.loop-entry.invariant in
    let first = upper_comes _ _ _ _ _ c.turn_of.ensures going.ready c.in-Upper.is _ _ _ c.entry_at-entry.ensures.told c.past-upper.ensures in
    record {
      source_inside = asked.source_inside;
      room_for = next_room _ _ _ _ _ _ _ _ going _ _ _ first asked.source_len_bound asked.work_bound;
      fence_le_below = going.fence_most;
    }

pub put_next-at-requires-in-Lower : goal.put_next-at-requires-in-Lower
put_next-at-requires-in-Lower c =
    let asked = c.requires in
    let going = c.loop-entry.invariant in
    let first = lower_comes _ _ _ _ _ c.turn_of.ensures going.ready c.in-Lower.is _ _ _ c.entry_at-entry-in-Lower.ensures.told c.past-lower.ensures in
    record {
      source_inside = asked.source_inside;
      room_for = next_room _ _ _ _ _ _ _ _ going _ _ _ first asked.source_len_bound asked.work_bound;
      fence_le_below = going.fence_most;
    }

pub loop-entry-preserved-in-Upper : goal.loop-entry-preserved-in-Upper
loop-entry-preserved-in-Upper c =
    let going = c.loop-entry.invariant in
    let put = c.put_next-at.ensures in
    let first = upper_comes _ _ _ _ _ c.turn_of.ensures going.ready c.in-Upper.is _ _ _ c.entry_at-entry.ensures.told c.past-upper.ensures in
    next_put _ _ _ _ _ _ _ _ going _ _ _ first _ _ _ put.told (upper_past _ _ _ _ going.ready _ c.past-upper.ensures) put.most (omega arith)

pub loop-entry-preserved-in-Lower : goal.loop-entry-preserved-in-Lower
loop-entry-preserved-in-Lower c =
    let going = c.loop-entry.invariant in
    let put = c.put_next-at-in-Lower.ensures in
    let first = lower_comes _ _ _ _ _ c.turn_of.ensures going.ready c.in-Lower.is _ _ _ c.entry_at-entry-in-Lower.ensures.told c.past-lower.ensures in
    next_put _ _ _ _ _ _ _ _ going _ _ _ first _ _ _ put.told (lower_past _ _ _ _ going.ready _ c.past-lower.ensures) put.most (omega arith)
