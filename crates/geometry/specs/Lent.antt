-- A store lent with its geometry and its plan: the geometry is in range, the plan is its plan, and the length is exact. What the plan's
-- numbers are then, and that every place lies inside the store. Assumes nothing.
use Prim.Native.Nat.{ℕ, zero, suc, ◌+◌, ◌*◌, ◌≤◌, ◌<◌}
use Rattle.std.proofs.Common.{arith, ◌∙◌}
use Rattle.std.specs.Prelude.{◌≡◌, List, length, get_or}
use Rattle.std.proofs.Math.Path.{ap}
use Rattle.geometry.specs.declared.Geometry.{Geometry}
use Rattle.geometry.specs.declared.Plan.{Plan}
use Rattle.geometry.specs.declared.LevelPlace.{LevelPlace}
use Rattle.geometry.specs.Geometry.{InRange, bottom, capacity, most, room, capacities, rooms}
use Rattle.geometry.specs.Places.{directory_words, head_start, words_in_slot, words_in_page, pages_word, head_room, level_start, page_place, plan_of, store_words}
use Rattle.geometry.specs.Bounds.{PlanSmall, within_is}
use Rattle.geometry.specs.Apart.{plan_small, level_after, level_inside}
use Rattle.geometry.specs.Directory.{level_place, pages_of_lem, place_start}

pub record Lent (g : Geometry) (plan : Plan) (w : List ℕ) : Type 0 where
  pub in_range_lem : InRange g
  pub planned : plan ≡ plan_of g
  pub exact : length w ≡ store_words g
  pub small : PlanSmall plan
  pub nine : directory_words ≤ length w

-- A store has at least its directory.
nine_words : (g : Geometry) (w : List ℕ) → length w ≡ store_words g → directory_words ≤ length w
unfolding store_words level_start
nine_words g w e = omega arith

pub lent : (g : Geometry) (plan : Plan) (w : List ℕ) → InRange g → plan ≡ plan_of g → length w ≡ store_words g → Lent g plan w
lent g plan w fit e x = record { in_range_lem = fit; planned = e; exact = x; small = rw e (plan_small g fit); nine = nine_words g w x }

-- The plan's store words.
pub plan_words : (plan : Plan) (g : Geometry) → plan ≡ plan_of g → plan.store_words ≡ store_words g
unfolding plan_of
plan_words plan g e = rw e
