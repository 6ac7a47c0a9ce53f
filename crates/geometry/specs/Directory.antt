-- What the directory's words say: the geometry, and where each level below the head stands. Only this module and `level_place` know it.
-- Assumes nothing.
use Rattle.std.specs.Prelude.{ℕ, zero, suc, ◌+◌, ◌-◌, ◌≤◌, ◌<◌, ◌≡◌, true, false, List, get_or, ltb}
use Rattle.std.proofs.Common.{arith, lt-ltb, le-ltb}
use Rattle.std.proofs.Math.Path.{refl}
use Rattle.geometry.specs.declared.Geometry.{Geometry}
use Rattle.geometry.specs.declared.LevelPlace.{LevelPlace}
use Rattle.geometry.specs.Geometry.{room}
use Rattle.geometry.specs.Bounds.{room_none}
use Rattle.geometry.specs.Places.{head_word, ratio_word, levels_word, pages_word, level_start, store_words}
use Rattle.geometry.specs.Apart.{level_after}

-- The stored geometry.
unfoldable pub geometry_of : List ℕ → Geometry
geometry_of w = record { head = get_or w head_word 0; ratio = get_or w ratio_word 0; levels = get_or w levels_word 0 }

-- The page count of level i, none below the bottom.
unfoldable pub pages_of : Geometry → List ℕ → ℕ → ℕ
pages_of g w i = elim (ltb i g.levels) [ true ↦ get_or w (pages_word i) 0 | false ↦ 0 ]

-- Where level i stands: its first word, the pages that it has room for, and the pages that it has.
unfoldable pub level_place : Geometry → List ℕ → ℕ → LevelPlace
level_place g w i = record { start = level_start g i; room = room g i; pages = pages_of g w i }

module _ (g : Geometry) (w : List ℕ) (i : ℕ) where
  -- A level that exists has the directory's page count, one that does not has none.
  pub pages_of_lem : i < g.levels → pages_of g w i ≡ get_or w (pages_word i) 0
  unfolding pages_of
  pages_of_lem h = rw (lt-ltb i g.levels h, pages_of)

  pub pages_none : g.levels ≤ i → pages_of g w i ≡ 0
  unfolding pages_of
  pages_none h = rw (le-ltb i g.levels h, pages_of)

  -- What a level's place holds.
  pub place_start : (level_place g w i).start ≡ level_start g i
  unfolding level_place
  place_start = refl

  pub place_room : (level_place g w i).room ≡ room g i
  unfolding level_place
  place_room = refl

  pub place_pages : (level_place g w i).pages ≡ pages_of g w i
  unfolding level_place
  place_pages = refl
