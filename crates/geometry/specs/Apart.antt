-- Every place of a store lies inside it, and two different places never overlap: one law over the level. Assumes nothing.
use Rattle.std.specs.Prelude.{ℕ, zero, suc, ◌+◌, ◌-◌, ◌*◌, ◌≤◌, ◌<◌, ◌≡◌}
use Rattle.std.proofs.Common.{le_trans, le_refl, le-add_right, zero-add, suc-add, arith}
use Rattle.geometry.specs.declared.Geometry.{Geometry}
use Rattle.geometry.specs.declared.Plan.{Plan}
use Rattle.geometry.specs.Geometry.{InRange, room}
use Rattle.geometry.specs.Bounds.{PlanSmall, capacities_small, rooms_small, room_small, room_zero}
use Rattle.geometry.specs.Places.{head_room, room_before, level_start, page_place, slot_place, head_place, store_words, work_words, plan_of}

-- Level 1 follows the head's slots, and the levels stand one after the other.
pub level_one : (g : Geometry) → 9 + 3 * (g.head + room g 1) ≡ level_start g 1
unfolding level_start head_room room_before
level_one g = omega (arith, room_zero g)

pub level_after : (g : Geometry) (i : ℕ) → level_start g (suc i) ≡ level_start g i + 64 * room g i
unfolding level_start room_before
level_after g i = omega arith

room_before_grows : (g : Geometry) (i n : ℕ) → room_before g i ≤ room_before g (n + i)
unfolding room_before
room_before_grows g i zero = rw zero-add (le_refl (room_before g i))
room_before_grows g i (suc n) = rw (suc-add n i) (le_trans (room_before_grows g i n) (le-add_right (room_before g (n + i)) (room g (n + i))))

pub level_grows : (g : Geometry) (i j : ℕ) → i ≤ j → level_start g i ≤ level_start g j
unfolding level_start
level_grows g i j h =
    let e : (j - i) + i ≡ j = omega arith in
    let grown : room_before g i ≤ room_before g j = rw e at (room_before_grows g i (j - i)) in
    omega arith

-- The head's slots end where level 1 begins.
pub head_inside : (g : Geometry) (j : ℕ) → j < head_room g → head_place j + 3 ≤ level_start g 1
unfolding head_place level_start
head_inside g j h = omega arith

-- A slot stands inside its page, a page inside its level's room, and a level inside the store.
pub slot_inside : (g : Geometry) (i p j : ℕ) → j < 21 → slot_place g i p j + 3 ≤ page_place g i (suc p)
unfolding slot_place page_place
slot_inside g i p j h = omega arith

pub level_inside : (g : Geometry) (i : ℕ) → i < 4 → level_start g (suc i) ≤ store_words g
unfolding store_words
level_inside g i h = level_grows g (suc i) 4 h

-- A page's slot count is one word, before its first slot.
pub count_before_slots : (g : Geometry) (i p j : ℕ) → page_place g i p + 1 ≤ slot_place g i p j
unfolding slot_place
count_before_slots g i p j = omega arith

pub first_slot : (g : Geometry) (i p : ℕ) → slot_place g i p 0 ≡ page_place g i p + 1
unfolding slot_place
first_slot g i p = omega arith

pub pages_apart : (g : Geometry) (i p p' : ℕ) → p < p' → page_place g i (suc p) ≤ page_place g i p'
unfolding page_place
pages_apart g i p p' h = omega arith

pub slots_apart : (g : Geometry) (i p j j' : ℕ) → j < j' → slot_place g i p j + 3 ≤ slot_place g i p j'
unfolding slot_place
slots_apart g i p j j' h = omega arith

pub head_slots_apart : (j j' : ℕ) → j < j' → head_place j + 3 ≤ head_place j'
unfolding head_place
head_slots_apart j j' h = omega arith

-- The places of a plan are small.
level_four : (g : Geometry) → InRange g → level_start g 4 ≤ 600000
unfolding level_start head_room room_before
level_four g fit = omega (arith, fit.head_most, room_small g fit 0, room_small g fit 1, room_small g fit 2, room_small g fit 3)

pub plan_small : (g : Geometry) → InRange g → PlanSmall (plan_of g)
unfolding plan_of store_words work_words head_room
plan_small g fit = record {
  capacities_below = capacities_small g fit;
  rooms_below = rooms_small g fit;
  starts_below = record { at0 = omega arith; at1 = starts 1 (omega arith); at2 = starts 2 (omega arith); at3 = starts 3 (omega arith) };
  head_room_below = omega (arith, fit.head_most, room_small g fit 1);
  store_below = level_four g fit;
  work_below = omega (arith, room_small g fit 1, room_small g fit 2, room_small g fit 3);
}
  where
    starts : (i : ℕ) → i ≤ 4 → level_start g i ≤ 600000
    starts i h = le_trans (level_grows g i 4 h) (level_four g fit)

pub plan_told : (g : Geometry) → InRange g → {p : Plan} → p ≡ plan_of g → (p ≡ plan_of g) × PlanSmall p
plan_told g fit e = (e, rw e (plan_small g fit))
