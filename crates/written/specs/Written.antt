-- What the clauses of src/lib.rt cite: the head or a level, given by the places of its words, is the writing of its own ascending entries
-- over the pages below as they stand. Assumes nothing.
use Rattle.std.specs.Prelude.{ℕ, ◌+◌, ◌*◌, ◌≤◌, Bool, false, ◌&&◌, List, length, take, drop, eqb}
use Rattle.laws.specs.Lists.{equal}
use Rattle.rules.specs.Level.{pages_for}
use Rattle.rules.specs.Store.{run_words, level_words}
use Rattle.rules.specs.Sound.{slots_from, entries_of, ascending}
use Rattle.layout.specs.Words.{first_pair, laid_over, level_run}
use Rattle.geometry.specs.Places.{words_in_slot, words_in_page}

-- A level of `pages` pages, in its room: its entries ascend, their writing has that many pages, and its words are the level's.
unfoldable pub level_written : List ℕ → ℕ → ℕ → ℕ → Bool → ℕ → ℕ → Bool
level_written w start room pages fenced below_start below =
    let es = entries_of (level_run w start pages) in
    let slots = laid_over fenced (first_pair w below_start) below es in
    ascending es && eqb (pages_for (length slots)) pages && equal (take (words_in_page * room) (drop start w)) (level_words slots room)

-- The head of `count` slots, in its room.
unfoldable pub head_written : List ℕ → ℕ → ℕ → ℕ → ℕ → ℕ → Bool
head_written w start room count below_start below =
    let es = entries_of (slots_from w start count) in
    let slots = laid_over false (first_pair w below_start) below es in
    ascending es && eqb (length slots) count && equal (take (words_in_slot * room) (drop start w)) (run_words slots room)

-- The room and the pages below lie inside the words, and a level's pages in its room.
pub record LevelInside (w : List ℕ) (start room pages below_start below : ℕ) : Type 0 where
  pub pages_least : 1 ≤ pages
  pub pages_most : pages ≤ room
  pub room_small : room ≤ 4096
  pub room_inside : start + words_in_page * room ≤ length w
  pub below_inside : below_start + words_in_page * below ≤ length w

pub record HeadInside (w : List ℕ) (start room count below_start below : ℕ) : Type 0 where
  pub count_most : count ≤ room
  pub room_small : room ≤ 4096
  pub room_inside : start + words_in_slot * room ≤ length w
  pub below_inside : below_start + words_in_page * below ≤ length w
