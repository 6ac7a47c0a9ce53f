-- Where the words of a store stand: the directory, the head's slots, each level's pages in order. Every constant of the
-- layout has its name here and in src/lib.rt, and nowhere else. Assumes nothing.
use Rattle.std.specs.Prelude.{ℕ, zero, suc, ◌+◌, ◌*◌, max, [], ◌∷◌}
use Rattle.geometry.specs.declared.Geometry.{Geometry}
use Rattle.geometry.specs.declared.Plan.{Plan}
use Rattle.geometry.specs.Geometry.{room, capacities, rooms}

-- Words 0..2 are H, k, l, word 3 the live pairs, words 4..6 the page counts of levels 1..3, word 7 the mode, word 8 the head's slot count.
abbrev pub head_word : ℕ
head_word = 0

abbrev pub ratio_word : ℕ
ratio_word = 1

abbrev pub levels_word : ℕ
levels_word = 2

abbrev pub live_word : ℕ
live_word = 3

abbrev pub pages_word : ℕ → ℕ
pages_word i = 3 + i

abbrev pub mode_word : ℕ
mode_word = 7

abbrev pub head_count_word : ℕ
head_count_word = 8

abbrev pub head_start : ℕ
head_start = 9

-- A store of fewer words has no directory to read.
abbrev pub directory_words : ℕ
directory_words = 9

-- What the mode's word holds in a store that takes puts and drops.
abbrev pub open_mode : ℕ
open_mode = 0

-- A page is 64 words: a slot count, then 21 slots of three words.
abbrev pub words_in_slot : ℕ
words_in_slot = 3

abbrev pub words_in_page : ℕ
words_in_page = 64

abbrev pub first_slot : ℕ
first_slot = 1

abbrev pub slots_in_page : ℕ
slots_in_page = 21

-- Unused slots and pages hold all ones.
abbrev pub erased : ℕ
erased = 4294967295

-- The head has room for H + Pg(1) slots.
unfoldable pub head_room : Geometry → ℕ
head_room g = g.head + room g 1

-- The page rooms of the levels above level i, added up.
unfoldable pub room_before : Geometry → ℕ → ℕ
room_before g zero = 0
room_before g (suc i) = room_before g i + room g i

-- The first word of level i, for i from 1 on, and of what follows the last.
unfoldable pub level_start : Geometry → ℕ → ℕ
level_start g i = head_start + words_in_slot * head_room g + words_in_page * room_before g i

-- The first word of page p of level i, and of its slot j.
unfoldable pub page_place : Geometry → ℕ → ℕ → ℕ
page_place g i p = level_start g i + words_in_page * p

unfoldable pub slot_place : Geometry → ℕ → ℕ → ℕ → ℕ
slot_place g i p j = page_place g i p + first_slot + words_in_slot * j

-- The first word of slot j of the head.
unfoldable pub head_place : ℕ → ℕ
head_place j = head_start + words_in_slot * j

-- The store's length is 9 + 3(H + Pg(1)) + 64 × (all page room), the work area's 64 × the greatest Pg.
unfoldable pub store_words : Geometry → ℕ
store_words g = level_start g 4

unfoldable pub work_words : Geometry → ℕ
work_words g = words_in_page * max (room g 1) (max (room g 2) (room g 3))

-- All of them as the numbers that src/lib.rt hands on.
unfoldable pub plan_of : Geometry → Plan
plan_of g = record {
  capacities = capacities g;
  rooms = rooms g;
  starts = head_start ∷ level_start g 1 ∷ level_start g 2 ∷ level_start g 3 ∷ [];
  head_room = head_room g;
  store_words = store_words g;
  work_words = work_words g;
}
