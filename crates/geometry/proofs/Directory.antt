-- What the directory's words say: the geometry, and where each level below the head stands. Only this module and `level_place` know it.
-- Assumes nothing.
use Rattle.std.specs.Prelude.{ℕ, zero, suc, ◌+◌, ◌-◌, ◌≤◌, ◌<◌, ◌≡◌, true, false, List, get_or, ltb}
use Rattle.std.proofs.Common.{arith, lt-ltb, le-ltb}
use Rattle.std.proofs.Math.Path.{refl}
use Rattle.geometry.specs.declared.Geometry.{Geometry}
use Rattle.geometry.specs.declared.LevelPlace.{LevelPlace}
use Rattle.geometry.specs.Geometry.{room}
use Rattle.geometry.specs.Bounds.{room_none}
use Rattle.geometry.specs.Places.{head_word, ratio_word, levels_word, pages_word, level_start, store_words}
use Rattle.geometry.specs.Apart.{level_after}
use Rattle.geometry.specs.Directory.{level_place, pages_none}

-- A level that does not exist begins where the store ends.
pub start_none : (g : Geometry) (n i : ℕ) → g.levels ≤ i → i + n ≡ 4 → level_start g i ≡ store_words g
unfolding store_words
start_none g zero i h e =
    let four : i ≡ 4 = omega arith in
    rw four
start_none g (suc n) i h e =
    let next = start_none g n (suc i) (omega arith) (omega arith) in
    let none = room_none g i h in
    omega (arith, level_after g i, none, next)

pub place_none : (g : Geometry) (w : List ℕ) (i : ℕ) → g.levels ≤ i → i ≤ 4 →
    record { start = store_words g; room = 0; pages = 0 } ≡ level_place g w i
unfolding level_place
place_none g w i h b = rw (start_none g (4 - i) i h (omega arith), room_none g i h, pages_none g w i h)
