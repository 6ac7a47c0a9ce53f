-- The head or a level is its writing exactly if the tests pass: filled pages, a row that follows the stream, unused words behind.
-- Assumes nothing.
use Rattle.std.specs.Prelude.{ℕ, ◌+◌, ◌-◌, ◌*◌, ◌≤◌, ◌≡◌, Bool, false, ◌&&◌, List, drop}
use Rattle.std.proofs.Math.Nat.{sub-zero}
use Rattle.std.proofs.Common.{arith, ◌∙◌}
use Rattle.std.proofs.Math.Path.{refl, sym, ap}
use Rattle.std.proofs.Math.Bool.{true}
use Rattle.std.proofs.Math.ListN.{length, take}
use Rattle.std.proofs.Math.Dec.{eqb}
use borrow.Author.Tests.{eqb-true, eq-eqb}
use Rattle.laws.specs.Lists.{span, equal}
use Rattle.laws.specs.Tests.{and_left, and_right}
use Rattle.laws.specs.Flat.{bool_agree, equal_true, equal_refl, span_length, slice_replicate, replicate_slice}
use Rattle.geometry.specs.declared.LevelPlace.{LevelPlace}
use Rattle.geometry.specs.Places.{erased}
use Rattle.slot.specs.declared.Pair.{Pair}
use Rattle.slot.specs.declared.Slot.{Slot}
use Rattle.rules.specs.Tree.{Level}
use Rattle.rules.specs.Level.{pages_for, fences}
use Rattle.rules.specs.Store.{run_words, level_words}
use Rattle.rules.specs.Sound.{slots_from, entries_of, ascending}
use Rattle.written.specs.declared.Row.{Row}
use Rattle.written.specs.Written.{level_written, head_written, LevelInside, HeadInside}
use Rattle.layout.specs.Words.{first_pair, laid_over, level_run}
use Rattle.layout.specs.Stream.{cut, fences_from, laid_from, are_stream}
use Rattle.layout.proofs.Stream.{stream_laid, laid_stream}
use Rattle.layout.specs.Run.{run_written, run_slots, run_rest}
use Rattle.layout.specs.Pages.{slots_length, flat_slot, last_count, row_length, used_end, Filled, Unused, level_flat, level_written_lem, level_filled, level_read, level_rest}
use Rattle.written.specs.Row.{RowInside, row_place, row_slot, row_slots, first_below, row_written}
use Rattle.written.specs.Tested.{unused, filled, unused_tells, unused_told, filled_tells, filled_told}

-- The row of a level, and of the head.
unfoldable pub level_row : List ℕ → ℕ → ℕ → Bool → LevelPlace → Row
level_row w start pages fenced below = record { start = start; paged = true; fenced = fenced; slots = row_length w start pages; below = below }

unfoldable pub head_row : ℕ → ℕ → LevelPlace → Row
head_row start count below = record { start = start; paged = false; fenced = false; slots = count; below = below }

-- The stream from the beginning is the whole writing.
pub laid_whole : (inner : Bool) (first : ℕ → Pair) (below : ℕ) (es : Level) → laid_from inner first below 0 0 es ≡ laid_over inner first below es
unfolding laid_from laid_over cut fences_from fences
laid_whole true first below es = rw (sub-zero below) refl
laid_whole false first below es = rw (sub-zero below) refl

-- A row is written exactly if it is the writing of its own entries, which ascend.
module _ (w : List ℕ) (row : Row) where
  row_laid : row_written w row ≡ true → laid_over row.fenced (first_below w row) row.below.pages (entries_of (row_slots w row)) ≡ row_slots w row
  unfolding row_written
  row_laid e =
      sym (laid_whole row.fenced (first_below w row) row.below.pages (entries_of (row_slots w row))) ∙
      stream_laid row.fenced (first_below w row) row.below.pages 0 0 (row_slots w row)
      (and_left (are_stream row.fenced (first_below w row) row.below.pages 0 0 (row_slots w row)) (ascending (entries_of (row_slots w row))) e)

  row_ascends : row_written w row ≡ true → ascending (entries_of (row_slots w row)) ≡ true
  unfolding row_written
  row_ascends e = and_right (are_stream row.fenced (first_below w row) row.below.pages 0 0 (row_slots w row)) (ascending (entries_of (row_slots w row))) e

  row_told : laid_over row.fenced (first_below w row) row.below.pages (entries_of (row_slots w row)) ≡ row_slots w row →
      ascending (entries_of (row_slots w row)) ≡ true → row_written w row ≡ true
  unfolding row_written
  row_told e a =
      rw (
        laid_stream row.fenced (first_below w row) row.below.pages 0 0 (row_slots w row)
            (laid_whole row.fenced (first_below w row) row.below.pages (entries_of (row_slots w row)) ∙ e),
        a,
      ) refl

-- The row of a level whose pages are filled, and of the head.
level_row_lem : (w : List ℕ) (start pages : ℕ) (fenced : Bool) (below : LevelPlace) →
    row_slots w (level_row w start pages fenced below) ≡ span (flat_slot w start) 0 (row_length w start pages)
unfolding row_slots level_row row_slot row_place flat_slot
level_row_lem w start pages fenced below = refl

head_row_lem : (w : List ℕ) (start count : ℕ) (below : LevelPlace) → row_slots w (head_row start count below) ≡ slots_from w start count
unfolding row_slots head_row row_slot row_place slots_from
head_row_lem w start count below = refl

-- A level is its writing exactly if its pages are filled, its row is written, and what is behind is unused.
module _ (w : List ℕ) (start room pages : ℕ) (fenced : Bool) (below : LevelPlace) (inside : LevelInside w start room pages below.start below.pages) where
  abbrev own : Level
  own = entries_of (level_run w start pages)

  abbrev laid : List Slot
  laid = laid_over fenced (first_pair w below.start) below.pages own

  abbrev row : Row
  row = level_row w start pages fenced below

  pub row_own : Filled w start pages → row_slots w row ≡ level_run w start pages
  row_own fill =
      level_row_lem w start pages fenced below ∙ sym (level_flat w start room pages inside.room_inside inside.pages_least inside.pages_most fill)

  level_passes : level_written w start room pages fenced below.start below.pages ≡ true →
      (filled w start pages && row_written w row && unused w (used_end w start pages) (start + 64 * room)) ≡ true
  unfolding level_written level_row first_below
  level_passes e =
      let up = ascending own in
      let many = eqb (pages_for (length laid)) pages in
      let words = equal (take (64 * room) (drop start w)) (level_words laid room) in
      let front = and_left (up && many) words e in
      let counted : pages_for (length laid) ≡ pages = eqb-true _ _ (and_right up many front) in
      let written : take (64 * room) (drop start w) ≡ level_words laid room = equal_true _ _ (and_right (up && many) words e) in
      let ri = inside.room_inside in
      let pl = inside.pages_least in
      let pm = inside.pages_most in
      let fill : Filled w start pages = level_filled w start room pages ri pl pm laid counted written in
      let rs : row_slots w row ≡ level_run w start pages = row_own fill in
      rw (
        filled_told w start pages pl fill,
        row_told w row (rw rs (sym (level_read w start room pages ri pl pm laid counted written))) (rw rs (and_left up many front)),
        unused_told w (used_end w start pages) (start + 64 * room) (level_rest w start room pages ri pl pm laid counted written),
      ) refl

  level_passed : (filled w start pages && row_written w row && unused w (used_end w start pages) (start + 64 * room)) ≡ true →
      level_written w start room pages fenced below.start below.pages ≡ true
  unfolding level_written level_row first_below
  level_passed e =
      let behind = unused w (used_end w start pages) (start + 64 * room) in
      let front = and_left (filled w start pages && row_written w row) behind e in
      let ri = inside.room_inside in
      let pl = inside.pages_least in
      let pm = inside.pages_most in
      let fill : Filled w start pages = filled_tells w start pages pl (and_left (filled w start pages) (row_written w row) front) in
      let ok : row_written w row ≡ true = and_right (filled w start pages) (row_written w row) front in
      let rs : row_slots w row ≡ level_run w start pages = row_own fill in
      let up : ascending own ≡ true = rw rs at (row_ascends w row ok) in
      let is : laid ≡ level_run w start pages = rw rs at (row_laid w row ok) in
      let flat : laid ≡ span (flat_slot w start) 0 (row_length w start pages) = is ∙ level_flat w start room pages ri pl pm fill in
      let counted : pages_for (length laid) ≡ pages = ap pages_for (ap length flat ∙ span_length (flat_slot w start) 0 (row_length w start pages)) ∙ fill.needed in
      let written : take (64 * room) (drop start w) ≡ level_words laid room =
      level_written_lem w start room pages ri pl pm laid fill flat
      (unused_tells w (used_end w start pages) (start + 64 * room) (and_right (filled w start pages && row_written w row) behind e)) in
      rw (up, eq-eqb (pages_for (length laid)) pages counted, written, equal_refl (level_words laid room)) refl

  pub level_decided : level_written w start room pages fenced below.start below.pages ≡
      (filled w start pages && row_written w row && unused w (used_end w start pages) (start + 64 * room))
  level_decided = bool_agree _ _ level_passes level_passed

  -- So it is told test by test, with the number of its entries.
  pub level_unfilled : filled w start pages ≡ false → level_written w start room pages fenced below.start below.pages ≡ false
  level_unfilled f = level_decided ∙ rw f refl

  module _ (fill : filled w start pages ≡ true) where
    pub level_kept : level_written w start room pages fenced below.start below.pages ≡ (row_written w row && unused w (used_end w start pages) (start + 64 * room))
    level_kept = level_decided ∙ rw fill refl

    pub level_counts_lem : length (entries_of (row_slots w row)) ≡ length (entries_of (level_run w start pages))
    level_counts_lem = ap (λ (l : List Slot). length (entries_of l)) (row_own (filled_tells w start pages inside.pages_least fill))

-- So is the head, which is not cut into pages, where its row is written and what is behind is unused.
module _ (w : List ℕ) (start room count : ℕ) (below : LevelPlace) (inside : HeadInside w start room count below.start below.pages) where
  abbrev head_own : Level
  head_own = entries_of (slots_from w start count)

  abbrev head_laid : List Slot
  head_laid = laid_over false (first_pair w below.start) below.pages head_own

  abbrev heads_row : Row
  heads_row = head_row start count below

  head_passes : head_written w start room count below.start below.pages ≡ true →
      (row_written w heads_row && unused w (start + 3 * count) (start + 3 * room)) ≡ true
  unfolding head_written head_row first_below
  head_passes e =
      let up = ascending head_own in
      let many = eqb (length head_laid) count in
      let words = equal (take (3 * room) (drop start w)) (run_words head_laid room) in
      let front = and_left (up && many) words e in
      let counted : length head_laid ≡ count = eqb-true _ _ (and_right up many front) in
      let written : take (3 * room) (drop start w) ≡ run_words head_laid room = equal_true _ _ (and_right (up && many) words e) in
      let fits : length head_laid ≤ room = rw counted inside.count_most in
      let rs : row_slots w heads_row ≡ slots_from w start count = head_row_lem w start count below in
      let is : head_laid ≡ slots_from w start count = rw counted at (run_slots w start room head_laid inside.room_inside fits written) in
      let rest = run_rest w start room head_laid inside.room_inside fits written in
      rw (
        row_told w heads_row (rw rs is) (rw rs (and_left up many front)),
        unused_told w (start + 3 * count) (start + 3 * room) (record {
          each = λ j l u. replicate_slice w (start + 3 * length head_laid) (3 * (room - length head_laid)) erased j rest (omega arith) (omega arith);
        }),
      ) refl

  head_passed : (row_written w heads_row && unused w (start + 3 * count) (start + 3 * room)) ≡ true → head_written w start room count below.start below.pages ≡ true
  unfolding head_written head_row first_below
  head_passed e =
      let behind = unused w (start + 3 * count) (start + 3 * room) in
      let ok : row_written w heads_row ≡ true = and_left (row_written w heads_row) behind e in
      let rest : Unused w (start + 3 * count) (start + 3 * room) =
      unused_tells w (start + 3 * count) (start + 3 * room) (and_right (row_written w heads_row) behind e) in
      let rs : row_slots w heads_row ≡ slots_from w start count = head_row_lem w start count below in
      let up : ascending head_own ≡ true = rw rs at (row_ascends w heads_row ok) in
      let is : head_laid ≡ slots_from w start count = rw rs at (row_laid w heads_row ok) in
      let counted : length head_laid ≡ count = ap length is ∙ slots_length w start count in
      let fits : length head_laid ≤ room = rw counted inside.count_most in
      let written : take (3 * room) (drop start w) ≡ run_words head_laid room =
      run_written w start room head_laid inside.room_inside fits (rw counted is)
      (slice_replicate w (start + 3 * length head_laid) (3 * (room - length head_laid)) erased (omega (arith, inside.room_inside)) (λ j l u. rest.each j (omega arith) (omega arith))) in
      rw (up, eq-eqb (length head_laid) count counted, written, equal_refl (run_words head_laid room)) refl

  pub head_decided : head_written w start room count below.start below.pages ≡ (row_written w heads_row && unused w (start + 3 * count) (start + 3 * room))
  head_decided = bool_agree _ _ head_passes head_passed

  pub head_counts : length (entries_of (row_slots w heads_row)) ≡ length (entries_of (slots_from w start count))
  head_counts = ap (λ (l : List Slot). length (entries_of l)) (head_row_lem w start count below)

-- The row of a level with filled pages, and of the head, lies inside the words.
pub level_row_inside : (w : List ℕ) (start room pages : ℕ) (fenced : Bool) (below : LevelPlace) → LevelInside w start room pages below.start below.pages →
    last_count w start pages ≤ 21 → RowInside w (level_row w start pages fenced below)
unfolding level_row row_place row_length
level_row_inside w start room pages fenced below inside most = record {
  slots_inside = λ n h. omega (arith, inside.pages_most, inside.room_inside);
  below_inside = inside.below_inside;
  slots_few = omega (arith, inside.pages_most, inside.room_small);
}

pub head_row_inside : (w : List ℕ) (start room count : ℕ) (below : LevelPlace) → HeadInside w start room count below.start below.pages →
    RowInside w (head_row start count below)
unfolding head_row row_place
head_row_inside w start room count below inside = record {
  slots_inside = λ n h. omega (arith, inside.count_most, inside.room_inside);
  below_inside = inside.below_inside;
  slots_few = omega (arith, inside.count_most, inside.room_small);
}
