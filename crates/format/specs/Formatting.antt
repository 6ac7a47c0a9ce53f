-- The words of the store of the empty set as they are written, over unused words: the directory and the head's fence, then each level's first
-- page. When all levels have theirs, the words are that store. Assumes nothing.
use Prim.Native.Nat.{ℕ, zero, suc, ◌+◌, ◌-◌, ◌*◌, ◌≤◌, ◌<◌}
use Rattle.std.proofs.Common.{add-one, sym, ap, ◌∙◌, drop-drop, take-add, eqb-true}
use native.Mathlib.Omega.{arith}
use Rattle.std.specs.Prelude.{◌≡◌, ◌≢◌, Bool, true, false, take, drop, replicate, eqb}
use Rattle.std.proofs.Math.Path.{refl}
use mathlib.Core.List.{List, [], ◌∷◌, ◌++◌}
use Rattle.std.proofs.Math.ListN.{length, get_or}
use Rattle.std.proofs.lemmas.List.{length-replicate}
use Rattle.std.proofs.Math.Seq.{sets, length-sets, take_all}
use Rattle.std.proofs.lemmas.Bool.{eqb-false}
use Rattle.laws.specs.Lists.{concat}
use Rattle.laws.specs.Flat.{slice_replicate, replicate_slice}
use Rattle.laws.specs.Sets.{get_d_sets_behind, part_before, part_behind, part_stored}
use Rattle.geometry.specs.declared.Geometry.{Geometry}
use Rattle.geometry.specs.declared.Plan.{Plan}
use Rattle.geometry.specs.declared.LevelPlace.{LevelPlace}
use Rattle.geometry.specs.Geometry.{InRange, room}
use Rattle.geometry.specs.Places.{erased, head_start, head_room, level_start, store_words, directory_words, words_in_page, words_in_slot}
use Rattle.geometry.specs.Bounds.{room_least}
use Rattle.geometry.specs.Apart.{level_after, level_inside}
use Rattle.geometry.proofs.Apart.{level_before}
use Rattle.geometry.specs.Lent.{Lent}
use Rattle.geometry.proofs.Lent.{page_at_lem}
use Rattle.geometry.specs.Directory.{level_place}
use Rattle.slot.specs.declared.Slot.{Slot}
use Rattle.slot.specs.Slot.{words_of}
use Rattle.rules.specs.Level.{pages_for, page_of}
use Rattle.rules.specs.Merging.{formatted}
use Rattle.rules.specs.Store.{run_words, page_words, level_words, directory, writing, empty_store}
use Rattle.layout.specs.Run.{words_of_all, words_length}
use Rattle.layout.specs.Pages.{Unused, level_page, level_pages, page_used, page_unused, pages_joined}
use Rattle.stored.specs.Parts.{parts_laid}
use Rattle.stored.specs.Replacing.{head_before}
use Rattle.format.specs.Empty.{first_fence, fence_alone, empty_row, empty_slots, row_at, row_head, row_short, row_one_page}

-- The words of a page as far as slots stand in it: their count, then theirs.
unfoldable pub page_front : List Slot → List ℕ
page_front slots = length slots ∷ words_of_all slots

-- All words erased, then the directory and the head's fence written; and the first page of level i written.
unfoldable pub head_written : Geometry → List ℕ → List ℕ
head_written g w = sets (sets (sets w 0 (replicate (length w - 0) erased)) 0 (directory g 0 (empty_slots g))) head_start (words_of first_fence)

unfoldable pub first_page_written : Geometry → ℕ → List ℕ → List ℕ
first_page_written g i w = sets w (level_start g i) (page_front (empty_row (eqb (i + 1) g.levels)))

-- Words that are unused from a place on.
abbrev UnusedFrom : List ℕ → ℕ → Type 0
UnusedFrom w a = Unused w a (length w)

-- The words before the first page of level i is written: all in front is as it stays, and from there on all are unused.
pub record Formatting (g : Geometry) (w : List ℕ) (i : ℕ) : Type 0 where
  pub some : 1 ≤ i
  pub whole : length w ≡ store_words g
  pub front : take directory_words w ≡ directory g 0 (empty_slots g)
  pub head : take (words_in_slot * head_room g) (drop head_start w) ≡ run_words (get_or (empty_slots g) 0 []) (head_room g)
  pub levels : (j : ℕ) → 1 ≤ j → j < i → take (words_in_page * room g j) (drop (level_start g j) w) ≡ level_words (get_or (empty_slots g) j []) (room g j)
  pub rest : UnusedFrom w (level_start g i)

-- Erased words are unused. Of words stored over the first of unused ones, what stands there then, and that all behind them is still unused.
all_unused : (w : List ℕ) → UnusedFrom (sets w 0 (replicate (length w - 0) erased)) 0
all_unused w = record { each = λ j l u. replicate_slice (sets w 0 nothing) 0 (length nothing) erased j stands l (omega (arith, long, length-sets w 0 nothing)) }
  where
    nothing : List ℕ
    nothing = replicate (length w - 0) erased

    long : length nothing ≡ length w
    long = length-replicate (length w - 0) erased ∙ omega arith

    stands : take (length nothing) (sets w 0 nothing) ≡ replicate (length nothing) erased
    stands = part_stored w 0 nothing (omega (arith, long)) ∙ ap (λ (n : ℕ). replicate n erased) (sym (length-replicate (length w - 0) erased))

module _ (w : List ℕ) (a : ℕ) (vs : List ℕ) (unused : UnusedFrom w a) where
  stored_rest : (from : ℕ) → a + length vs ≤ from → UnusedFrom (sets w a vs) from
  stored_rest from h = record { each = λ j l u. get_d_sets_behind w a j vs 0 (omega arith) ∙ unused.each j (omega arith) (omega (arith, length-sets w a vs)) }

  stored_front : (n : ℕ) → length vs ≤ n → a + n ≤ length w → take n (drop a (sets w a vs)) ≡ vs ++ replicate (n - length vs) erased
  stored_front n h b =
      let m = length vs in
      let e : n ≡ m + (n - m) = omega arith in
      let rest : take (n - m) (drop (a + m) (sets w a vs)) ≡ replicate (n - m) erased =
      part_behind w a vs (a + m) (n - m) (omega arith) ∙
      slice_replicate w (a + m) (n - m) erased (omega arith) (λ j l u. unused.each j (omega arith) (omega arith)) in
      ap (λ (k : ℕ). take k (drop a (sets w a vs))) e ∙ take-add m (n - m) (drop a (sets w a vs)) ∙
      rw (part_stored w a vs (omega arith), drop-drop m a (sets w a vs), rest) refl

-- The fence stored at the head's start is the head's words.
fence_length : length (words_of first_fence) ≡ 3
unfolding words_of
fence_length = refl

fence_run : (n : ℕ) → words_of first_fence ++ replicate (3 * n - length (words_of first_fence)) erased ≡ run_words fence_alone n
unfolding words_of run_words concat
fence_run n =
    let e : 3 * n - 3 ≡ 3 * (n - 1) = omega arith in
    rw e refl

-- Slots stored with their count at a level's start are the level's words, where a page holds them.
front_length : (slots : List Slot) → length (page_front slots) ≡ 1 + 3 * length slots
unfolding page_front
front_length slots = omega (arith, words_length slots)

module _ (w : List ℕ) (start n : ℕ) (slots : List Slot) (one : pages_for (length slots) ≡ 1) (some : 1 ≤ n)
    (inside : start + 64 * n ≤ length w) (unused : UnusedFrom w start) where
  short : length slots ≤ 21
  unfolding pages_for
  short = omega arith

  first_page : take 64 (drop start (sets w start (page_front slots))) ≡ page_words slots
  unfolding page_words run_words page_front
  first_page =
      let e : 64 - length (page_front slots) ≡ 3 * (21 - length slots) = omega (arith, front_length slots, short) in
      stored_front w start (page_front slots) unused 64 (omega (arith, front_length slots, short)) (omega arith) ∙ rw e refl

  first_slots : page_of slots 0 ≡ slots
  unfolding page_of
  first_slots = take_all 21 slots short

  level_front : take (64 * n) (drop start (sets w start (page_front slots))) ≡ level_words slots n
  level_front = (rw z at (pages_joined (sets w start (page_front slots)) start (level_page slots) 0 n (λ p l u. each p (omega arith)))) ∙ sym (level_pages slots n)
    where
      z : start + 64 * 0 ≡ start
      z = omega arith

      each : (p : ℕ) → p < n → take 64 (drop (start + 64 * p) (sets w start (page_front slots))) ≡ level_page slots p
      each zero b = rw (z, page_used slots 0 (omega arith), first_slots) first_page
      each (suc p) b =
          part_behind w start (page_front slots) (start + 64 * suc p) 64 (omega (arith, front_length slots, short)) ∙
          slice_replicate w (start + 64 * suc p) 64 erased (omega arith) (λ j l u. unused.each j (omega arith) (omega arith)) ∙
          sym (page_unused slots (suc p) (omega arith))

module _ (g : Geometry) (fit : InRange g) where
  directory_length : length (directory g 0 (empty_slots g)) ≡ directory_words
  unfolding directory
  directory_length = refl

  head_some : 1 ≤ head_room g
  unfolding head_room
  head_some = omega (arith, fit.head_least)

  head_inside : head_start + 3 * head_room g ≤ store_words g
  unfolding store_words
  head_inside = head_before g 4

  -- The head is written, and no level yet.
  pub format_begins : (w : List ℕ) → length w ≡ store_words g → Formatting g (head_written g w) 1
  unfolding head_written
  format_begins w e =
      let fits : length (words_of first_fence) ≤ 3 * head_room g = omega (arith, fence_length, head_some) in
      record {
        some = omega arith;
        whole = length-sets opened head_start (words_of first_fence) ∙ opened_length;
        front = part_before opened head_start (words_of first_fence) 0 directory_words (omega arith) ∙
            (rw directory_length at (part_stored bare 0 (directory g 0 (empty_slots g)) (omega (arith, directory_length, bare_length, head_inside))));
        head = stored_front opened head_start (words_of first_fence) rest (3 * head_room g) fits (omega (arith, opened_length, head_inside)) ∙ rw (row_head g fit) (fence_run (head_room g));
        levels = λ j l b. absurd (omega arith);
        rest = stored_rest opened head_start (words_of first_fence) rest (level_start g 1) (omega (arith, fits, head_before g 1));
      }
    where
      bare : List ℕ
      bare = sets w 0 (replicate (length w - 0) erased)

      opened : List ℕ
      opened = sets bare 0 (directory g 0 (empty_slots g))

      bare_length : length bare ≡ store_words g
      bare_length = length-sets w 0 (replicate (length w - 0) erased) ∙ e

      opened_length : length opened ≡ store_words g
      opened_length = length-sets bare 0 (directory g 0 (empty_slots g)) ∙ bare_length

      rest : UnusedFrom opened head_start
      rest = stored_rest bare 0 (directory g 0 (empty_slots g)) (all_unused w) head_start (omega (arith, directory_length))

  -- The first page of a level is written, and the level is as it stays.
  pub format_goes_on : (w : List ℕ) (i : ℕ) → i < g.levels → Formatting g w i → Formatting g (first_page_written g i w) (i + 1)
  unfolding first_page_written
  format_goes_on w i h f = rw (← (row_at g fit i h)) written
    where
      row : List Slot
      row = get_or (empty_slots g) i []

      start : ℕ
      start = level_start g i

      front : List ℕ
      front = page_front row

      next : level_start g (i + 1) ≡ start + 64 * room g i
      next = rw (add-one i) (level_after g i)

      space : 1 ≤ room g i
      space = room_least g fit i f.some h

      inside : start + 64 * room g i ≤ length w
      inside = omega (arith, f.whole, level_after g i, level_inside g i (omega (arith, fit.levels_most)))

      chosen : (j : ℕ) → 1 ≤ j → j < i + 1 → (b : Bool) → eqb j i ≡ b →
          take (64 * room g j) (drop (level_start g j) (sets w start front)) ≡ level_words (get_or (empty_slots g) j []) (room g j)
      chosen j k b true t = rw (eqb-true j i t) (level_front w start (room g i) row (row_one_page g fit i h) space inside f.rest)
      chosen j k b false t =
          let d : j ≢ i = eqb-false j i t in
          part_before w start front (level_start g j) (64 * room g j) (level_before g j i (omega arith)) ∙ f.levels j k (omega arith)

      written : Formatting g (sets w start front) (i + 1)
      written = record {
        some = omega arith;
        whole = length-sets w start front ∙ f.whole;
        front = part_before w start front 0 directory_words (omega (arith, head_before g i)) ∙ f.front;
        head = part_before w start front head_start (3 * head_room g) (omega (arith, head_before g i)) ∙ f.head;
        levels = λ j k b. chosen j k b (eqb j i) refl;
        rest = stored_rest w start front f.rest (level_start g (i + 1)) (omega (arith, next, space, front_length row, row_short g fit i h));
      }

  -- All levels are written, and the words are the store of the empty set.
  pub format_ends : (w : List ℕ) (i : ℕ) → g.levels ≤ i → Formatting g w i → w ≡ empty_store g
  unfolding empty_store writing formatted empty_slots
  format_ends w i h f =
      parts_laid g 0 (empty_slots g) fit w
      (record { whole = f.whole; front = f.front; head = f.head; levels = λ j l b. f.levels j l (omega arith) })

-- Where the code writes a level's first page.
pub start_inside : (g : Geometry) (plan : Plan) (w : List ℕ) → Lent g plan w → (i : ℕ) → 1 ≤ i → i < g.levels → {place : LevelPlace} → place ≡ level_place g w i →
    place.start + words_in_page ≤ length w
start_inside g plan w lends i some there e = omega (arith, (page_at_lem g plan w lends i 0 there (room_least g lends.in_range_lem i some there) e).1)
