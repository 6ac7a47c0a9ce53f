-- Every place of a store lies inside it, and two different places never overlap: one law over the level. Assumes nothing.
use Rattle.std.specs.Prelude.{ℕ, zero, suc, ◌+◌, ◌-◌, ◌*◌, ◌≤◌, ◌<◌, ◌≡◌}
use Rattle.std.proofs.Common.{le_trans, le_refl, le-add_right, zero-add, suc-add, arith}
use Rattle.geometry.specs.declared.Geometry.{Geometry}
use Rattle.geometry.specs.declared.Plan.{Plan}
use Rattle.geometry.specs.Geometry.{InRange, room}
use Rattle.geometry.specs.Bounds.{PlanSmall, capacities_small, rooms_small, room_small, room_zero}
use Rattle.geometry.specs.Places.{head_room, room_before, level_start, page_place, slot_place, head_place, store_words, work_words, plan_of}
use Rattle.geometry.specs.Apart.{level_after, level_grows}

pub level_before : (g : Geometry) (i j : ℕ) → i < j → level_start g i + 64 * room g i ≤ level_start g j
level_before g i j h = rw (level_after g i) at (level_grows g (suc i) j h)

pub page_inside : (g : Geometry) (i p : ℕ) → p < room g i → page_place g i (suc p) ≤ level_start g (suc i)
unfolding page_place
page_inside g i p h = omega (arith, level_after g i)

-- Two different places never overlap: an earlier level, an earlier page of a level, an earlier slot of a page ends before a later one begins.
pub levels_apart : (g : Geometry) (i p i' p' : ℕ) → i < i' → p < room g i → page_place g i (suc p) ≤ page_place g i' p'
unfolding page_place
levels_apart g i p i' p' h b = omega (arith, level_before g i i' h)
