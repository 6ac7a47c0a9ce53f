-- The places of the head and of each level lie inside a store of the right length whose directory is right. Assumes nothing.
use Rattle.std.specs.Prelude.{ℕ, suc, ◌+◌, ◌*◌, ◌≤◌, ◌<◌, ◌≡◌, refl, Bool, true, false, List, length, get_or, ltb}
use Rattle.std.proofs.Common.{arith, ltb-true, ltb-false}
use Rattle.geometry.specs.declared.Geometry.{Geometry}
use Rattle.geometry.specs.Geometry.{InRange, room}
use Rattle.geometry.specs.Places.{head_count_word, head_start, head_room, level_start, store_words}
use Rattle.geometry.specs.Bounds.{room_small}
use Rattle.geometry.specs.Apart.{level_one, level_after, level_inside}
use Rattle.rules.specs.Sound.{directory_right, head_right}
use Rattle.geometry.specs.Directory.{pages_of, pages_none}
use Rattle.rules.specs.Directed.{pages_least, pages_most}
use Rattle.written.specs.Written.{LevelInside, HeadInside}
use Rattle.written.specs.Parts.{head_fits}

module _ (g : Geometry) (w : List ℕ) (fit : InRange g) (right : directory_right g w ≡ true) (whole : length w ≡ store_words g) where
  below_fits : (i : ℕ) → i < g.levels → level_start g (suc i) + 64 * pages_of g w (suc i) ≤ length w
  below_fits i u = chosen (ltb (suc i) g.levels) refl
    where
      chosen : (b : Bool) → ltb (suc i) g.levels ≡ b → level_start g (suc i) + 64 * pages_of g w (suc i) ≤ length w
      chosen true e =
          let b = ltb-true (suc i) g.levels e in
          omega (arith, pages_most g w right (suc i) (omega arith) (omega (arith, fit.levels_most)) b, level_after g (suc i), level_inside g (suc i) (omega (arith, fit.levels_most)))
      chosen false e = omega (arith, pages_none g w (suc i) (ltb-false (suc i) g.levels e), level_inside g i (omega (arith, fit.levels_most)))

  pub level_places : (i : ℕ) → 1 ≤ i → i < g.levels →
      LevelInside w (level_start g i) (room g i) (pages_of g w i) (level_start g (suc i)) (pages_of g w (suc i))
  level_places i l u = record {
    pages_least = pages_least g w right i l (omega (arith, fit.levels_most)) u;
    pages_most = pages_most g w right i l (omega (arith, fit.levels_most)) u;
    room_small = omega (arith, room_small g fit i);
    room_inside = omega (arith, level_after g i, level_inside g i (omega (arith, fit.levels_most)));
    below_inside = below_fits i u;
  }

  pub head_places : head_right g w ≡ true → HeadInside w head_start (head_room g) (get_or w head_count_word 0) (level_start g 1) (pages_of g w 1)
  unfolding head_room
  head_places e = record {
    count_most = head_fits g w e;
    room_small = omega (arith, fit.head_most, room_small g fit 1);
    room_inside = omega (arith, level_one g, level_inside g 0 (omega arith));
    below_inside = below_fits 0 (omega (arith, fit.levels_least));
  }
