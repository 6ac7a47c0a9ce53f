-- The runs of levels by their number lie inside the store, and the pages of level 1 behind the head. Assumes nothing.
use Rattle.std.specs.Prelude.{ℕ, zero, suc, ◌+◌, ◌*◌, ◌≤◌, ◌<◌, ◌≡◌, refl, List, length}
use Rattle.std.proofs.Common.{arith}
use Rattle.geometry.specs.declared.Geometry.{Geometry}
use Rattle.geometry.specs.declared.Plan.{Plan}
use Rattle.geometry.specs.declared.LevelPlace.{LevelPlace}
use Rattle.geometry.specs.Geometry.{room}
use Rattle.geometry.specs.Places.{head_start, words_in_slot, words_in_page, head_room, level_start, store_words}
use Rattle.geometry.specs.Bounds.{room_small}
use Rattle.geometry.specs.Apart.{level_one, level_after, level_inside}
use Rattle.geometry.specs.Lent.{Lent}
use Rattle.geometry.proofs.Lent.{head_room_at}
use Rattle.geometry.specs.Directory.{pages_of, level_place}
use Rattle.entries.specs.Run.{Inside}
use Rattle.entries.specs.Levels.{PagesWithin, runs_of, runs_inside}
use Rattle.merge.specs.Filling.{run_at}

pub run_inside : (g : Geometry) (plan : Plan) (w : List ℕ) → Lent g plan w → PagesWithin g w → (i : ℕ) → i < g.levels → Inside (run_at g w i) (length w)
unfolding run_at runs_of
run_inside g plan w l b i u = rw l.exact (at i (omega (arith, u, l.in_range_lem.levels_most)))
  where
    at : (j : ℕ) → j ≤ 3 → Inside (run_at g w j) (store_words g)
    at zero h = (runs_inside g w l.in_range_lem b).head
    at (suc zero) h = (runs_inside g w l.in_range_lem b).first
    at (suc (suc zero)) h = (runs_inside g w l.in_range_lem b).second
    at (suc (suc (suc zero))) h = (runs_inside g w l.in_range_lem b).third
    at (suc (suc (suc (suc j)))) h = absurd (omega arith)

-- The page count of level 1 and its first word.
pub record HeadPlaces (g : Geometry) (w : List ℕ) (pages below : ℕ) : Type 0 where
  pub counted : pages ≡ pages_of g w 1
  pub starts : below ≡ level_start g 1
  pub few : pages ≤ head_room g
  pub apart : head_start + words_in_slot * pages ≤ below
  pub inside : below + words_in_page * pages ≤ length w
  pub small : pages ≤ 2000

pub head_places : (g : Geometry) (plan : Plan) (w : List ℕ) → Lent g plan w → PagesWithin g w → {place : LevelPlace} → place ≡ level_place g w 1 →
    HeadPlaces g w place.pages place.start
unfolding head_room store_words level_place
head_places g plan w l b e =
    let fit = l.in_range_lem in
    let few : pages_of g w 1 ≤ room g 1 = b.first in
    rw e (record {
      counted = refl;
      starts = refl;
      few = omega arith;
      apart = omega (arith, few, level_one g);
      inside = omega (arith, few, l.exact, level_after g 1, level_inside g 1 (omega arith));
      small = omega (arith, few, room_small g fit 1);
    })

-- The head's slots end where level 1 begins.
pub head_end : (g : Geometry) (plan : Plan) (w : List ℕ) → Lent g plan w → head_start + words_in_slot * plan.head_room ≡ level_start g 1
unfolding head_room
head_end g plan w l = rw (head_room_at g plan w l) (level_one g)
