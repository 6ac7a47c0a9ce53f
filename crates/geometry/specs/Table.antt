-- The paper's geometry table, computed. Assumes nothing.
use Rattle.std.specs.Prelude.{ℕ, ◌≡◌, refl, List, [], ◌∷◌, map}
use Rattle.geometry.specs.declared.Geometry.{Geometry}
use Rattle.geometry.specs.Geometry.{capacity, most, total, room_over, room}
use Rattle.geometry.specs.Places.{head_room, room_before, level_start, store_words, work_words}

-- A row: H, k, l; M; the page rooms of levels 1 to 3; store words; work words.
pub row : Geometry → List ℕ
row g = most g ∷ room g 1 ∷ room g 2 ∷ room g 3 ∷ store_words g ∷ work_words g ∷ []

pub geometries : List Geometry
geometries =
    record { head = 4; ratio = 2; levels = 3 } ∷ record { head = 21; ratio = 2; levels = 2 } ∷ record { head = 10; ratio = 4; levels = 3 } ∷
    record { head = 64; ratio = 8; levels = 4 } ∷ []

pub rows : List (List ℕ)
rows =
    (16 ∷ 1 ∷ 1 ∷ 0 ∷ 152 ∷ 64 ∷ []) ∷ (42 ∷ 2 ∷ 0 ∷ 0 ∷ 206 ∷ 128 ∷ []) ∷ (160 ∷ 3 ∷ 8 ∷ 0 ∷ 752 ∷ 512 ∷ []) ∷
    (32768 ∷ 45 ∷ 312 ∷ 1561 ∷ 123088 ∷ 99904 ∷ []) ∷ []

pub geometry_table : map row geometries ≡ rows
unfolding row geometries rows capacity most total room_over room head_room room_before level_start store_words work_words
geometry_table = refl
