-- `rooms` gives Pg(i) of each level, the bottom first, by the laws room-three, room-two and room-one. Assumes nothing.
use Rattle.geometry.specs.Geometry.{rooms}
use Rattle.geometry.specs.Bounds.{room_small, room_zero, rooms_told, room_three, room_two, room_one}
use native.Mathlib.Omega.{arith}
use borrow.Author.Rules.{rules}
use Rattle.laws.specs.Clauses.{two_clauses}
use Rattle.geometry.proofs.rooms.Goals as goal

pub room_of-middle-requires : goal.room_of-middle-requires
room_of-middle-requires c =
    let a = c.args in
    let pre = c.requires in
    let third = room_three a.g pre c.capacities-capacities.result c.capacities-capacities.ensures.exact _ c.room_of-bottom.ensures in
    omega (arith, third, room_small a.g pre 3)

pub room_of-top-requires : goal.room_of-top-requires
room_of-top-requires c =
    let a = c.args in
    let pre = c.requires in
    let capacities = c.capacities-capacities in
    let third = room_three a.g pre capacities.result capacities.ensures.exact _ c.room_of-bottom.ensures in
    let second = room_two a.g pre capacities.result capacities.ensures.exact _ _ third c.room_of-middle.ensures in
    omega (arith, second, room_small a.g pre 2)

pub returns : goal.returns
unfolding rooms
returns c =
    let a = c.args in
    let pre = c.requires in
    let capacities = c.capacities-capacities in
    let third = room_three a.g pre capacities.result capacities.ensures.exact _ c.room_of-bottom.ensures in
    let second = room_two a.g pre capacities.result capacities.ensures.exact _ _ third c.room_of-middle.ensures in
    let first = room_one a.g pre capacities.result capacities.ensures.exact _ _ second c.room_of-top.ensures in
    two_clauses (λ v0 v1. record { exact = v0; small = v1 }) (rooms_told a.g pre (rw (room_zero a.g, ← third, ← second, ← first)))
