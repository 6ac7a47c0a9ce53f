-- A store that is laid out in slots, part by part: how long it is, where the head's slots and each level's pages stand in it, and that
-- words with the same parts are that store. Assumes nothing.
use Rattle.std.specs.Prelude.{ℕ, zero, suc, ◌+◌, ◌-◌, ◌*◌, ◌≤◌, ◌<◌, ◌≡◌, List, [], ◌++◌, length, get_or, take}
use Rattle.std.proofs.Common.{zero-add, suc-add, arith, ap, ◌∙◌, append_assoc, length-append, lt-ltb, le-ltb}
use Rattle.std.proofs.Math.Path.{refl, sym}
use Rattle.std.proofs.Math.ListN.{drop, take-append-drop}
use Rattle.std.proofs.Math.Seq.{take_at, drop-drop}
use Rattle.laws.specs.Lists.{span, concat}
use Rattle.laws.specs.Joined.{joined_length, joined_part, parts_joined}
use Rattle.geometry.specs.declared.Geometry.{Geometry}
use Rattle.geometry.specs.Geometry.{InRange, bottom, room}
use Rattle.geometry.specs.Places.{head_start, head_room, level_start, store_words, directory_words, words_in_page, words_in_slot}
use Rattle.geometry.specs.Bounds.{room_none}
use Rattle.geometry.specs.Apart.{level_one, level_after}
use Rattle.slot.specs.declared.Slot.{Slot}
use Rattle.rules.specs.Level.{pages_for}
use Rattle.rules.specs.Store.{run_words, level_words, page_count, directory, laid_out}
use Rattle.layout.specs.Run.{run_words_lem}
use Rattle.layout.specs.Pages.{level_words_lem}

-- The page count of a level, and of one that does not exist.
pub page_count_lem : (g : Geometry) (ss : List (List Slot)) (i : ℕ) → i < g.levels → page_count g ss i ≡ pages_for (length (get_or ss i []))
unfolding page_count
page_count_lem g ss i h = rw (lt-ltb i g.levels h, page_count)

pub no_page_count : (g : Geometry) (ss : List (List Slot)) (i : ℕ) → g.levels ≤ i → page_count g ss i ≡ 0
unfolding page_count
no_page_count g ss i h = rw (le-ltb i g.levels h, page_count)

-- Behind the bottom there is no more room: the store ends there.
levels_end : (g : Geometry) (n : ℕ) → level_start g (n + g.levels) ≡ level_start g g.levels
levels_end g zero = rw (zero-add g.levels) refl
levels_end g (suc n) = rw (suc-add n g.levels) (omega (arith, level_after g (n + g.levels), room_none g (n + g.levels) (omega arith), levels_end g n))

pub store_end : (g : Geometry) → InRange g → level_start g g.levels ≡ store_words g
unfolding store_words
store_end g fit =
    let e : 4 - g.levels + g.levels ≡ 4 = omega (arith, fit.levels_most) in
    sym (levels_end g (4 - g.levels)) ∙ ap (level_start g) e

head_end : (g : Geometry) → level_start g 1 ≡ directory_words + 3 * head_room g
unfolding head_room
head_end g = sym (level_one g)

-- Words whose directory, head and levels are those of slots.
pub record Parts (g : Geometry) (live : ℕ) (ss : List (List Slot)) (w : List ℕ) : Type 0 where
  pub whole : length w ≡ store_words g
  pub front : take directory_words w ≡ directory g live ss
  pub head : take (words_in_slot * head_room g) (drop head_start w) ≡ run_words (get_or ss 0 []) (head_room g)
  pub levels : (i : ℕ) → 1 ≤ i → i < g.levels → take (words_in_page * room g i) (drop (level_start g i) w) ≡ level_words (get_or ss i []) (room g i)

module _ (g : Geometry) (live : ℕ) (ss : List (List Slot)) (fit : InRange g) where
  -- The words of level i, and where the next level starts.
  abbrev of_level : ℕ → List ℕ
  of_level i = level_words (get_or ss i []) (room g i)

  next_level : (i : ℕ) → level_start g (suc i) ≡ level_start g i + length (of_level i)
  next_level i = omega (arith, level_after g i, level_words_lem (get_or ss i []) (room g i))

  levels_counted : 1 + bottom g ≡ g.levels
  levels_counted = omega (arith, fit.levels_least)

  -- They are the store that is laid out in those slots.
  pub parts_laid : (w : List ℕ) → Parts g live ss w → w ≡ laid_out g live ss
  unfolding laid_out
  parts_laid w p =
      let rest : drop (level_start g 1) w ≡ concat (span of_level 1 (bottom g)) =
      parts_joined of_level (level_start g) next_level w 1 (bottom g) (rw levels_counted (p.whole ∙ sym (store_end g fit)))
      (λ j l u. rw (level_words_lem (get_or ss j []) (room g j)) (p.levels j l (omega (arith, levels_counted)))) in
      sym (take-append-drop directory_words w) ∙
      rw (p.front, ← take-append-drop (3 * head_room g) (drop directory_words w), p.head, drop-drop (3 * head_room g) directory_words w, ← head_end g, rest) refl

  -- And that store has them, where its head has room.
  module _ (head_fits : length (get_or ss 0 []) ≤ head_room g) where
    abbrev w : List ℕ
    w = laid_out g live ss

    abbrev of_head : List ℕ
    of_head = run_words (get_or ss 0 []) (head_room g)

    abbrev of_levels : List ℕ
    of_levels = concat (span of_level 1 (bottom g))

    ahead : length (directory g live ss ++ of_head) ≡ level_start g 1
    unfolding directory
    ahead = omega (arith, run_words_lem (get_or ss 0 []) (head_room g) head_fits, head_end g)

    laid_split : w ≡ directory g live ss ++ of_head ++ of_levels
    unfolding laid_out
    laid_split = sym (append_assoc (directory g live ss) of_head of_levels)

    pub laid_length : length w ≡ store_words g
    laid_length =
        ap length laid_split ∙ length-append (directory g live ss ++ of_head) of_levels ∙ rw ahead (joined_length of_level (level_start g) next_level 1 (bottom g)) ∙
        ap (level_start g) levels_counted ∙ store_end g fit

    pub head_part : take (3 * head_room g) (drop head_start w) ≡ run_words (get_or ss 0 []) (head_room g)
    unfolding laid_out directory
    head_part = take_at of_head of_levels (3 * head_room g) (run_words_lem (get_or ss 0 []) (head_room g) head_fits)

    pub level_part : (i : ℕ) → 1 ≤ i → i < g.levels → take (64 * room g i) (drop (level_start g i) w) ≡ level_words (get_or ss i []) (room g i)
    level_part i l u =
        rw (laid_split, ← level_words_lem (get_or ss i []) (room g i))
        (joined_part of_level (level_start g) next_level (directory g live ss ++ of_head) 1 (bottom g) i ahead l (omega (arith, levels_counted)))

    pub laid_parts : Parts g live ss (laid_out g live ss)
    unfolding laid_out directory
    laid_parts = record { whole = laid_length; front = refl; head = head_part; levels = level_part }
