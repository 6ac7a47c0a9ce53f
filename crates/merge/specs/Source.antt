-- What a level is filled from: the entries of two runs joined, over the pages of the level below as they stand; written into the work
-- area, and copied from there to its room. Assumes nothing.
use Prim.Native.Nat.{ℕ, zero, suc, ◌+◌, ◌-◌, ◌*◌, ◌≤◌, ◌<◌, max}
use Rattle.std.proofs.Common.{add-one, arith, ap, ◌∙◌, take_at}
use Rattle.std.specs.Prelude.{◌≡◌, Bool, not, ◌≢◌, List, [], ◌++◌, set, take, eqb}
use Rattle.std.proofs.Math.Path.{refl, sym}
use Rattle.std.proofs.Math.Bool.{true, false}
use Rattle.std.proofs.Math.ListN.{length}
use Rattle.std.proofs.lemmas.List.Edits.{sets}
use Rattle.std.proofs.Math.Dec.{ltb}
use borrow.Author.Tests.{ltb-true, ltb-false, lt-ltb, le-ltb, eqb-true, eqb-false}
use Rattle.laws.specs.Lists.{span, concat}
use Rattle.laws.specs.Flat.{concat_append, span_append}
use Rattle.geometry.specs.declared.Geometry.{Geometry}
use Rattle.geometry.specs.declared.Plan.{Plan}
use Rattle.geometry.specs.declared.LevelPlace.{LevelPlace}
use Rattle.geometry.specs.Geometry.{InRange, bottom, room}
use Rattle.geometry.specs.Places.{level_start, store_words, work_words, pages_word, words_in_page, slots_in_page}
use Rattle.geometry.specs.Bounds.{room_small, room_least}
use Rattle.geometry.specs.Apart.{level_after, level_inside}
use Rattle.geometry.specs.Lent.{Lent}
use Rattle.geometry.proofs.Lent.{room_inside}
use Rattle.slot.specs.declared.Slot.{Slot}
use Rattle.rules.specs.Level.{pages_for}
use Rattle.rules.specs.Merging.{join}
use Rattle.rules.specs.Store.{level_words}
use Rattle.rules.specs.Sound.{level_laid, ascending}
use Rattle.geometry.specs.Directory.{pages_of, level_place, pages_none}
use Rattle.entries.specs.declared.Run.{Run}
use Rattle.entries.specs.Run.{Inside, entries_in}
use Rattle.entries.specs.Levels.{PagesWithin}
use Rattle.layout.specs.Pages.{level_page, level_pages, level_words_lem}
use Rattle.written.specs.Parts.{level_laid_lem}
use Rattle.writer.specs.declared.Source.{Source}
use Rattle.writer.specs.Source.{SourceInside, SourceAscends, level_from}
use Rattle.writer.specs.Writing.{room_in, WholePages}
use Rattle.merge.specs.Filling.{filled, filled_pages, Fillable, level_put}

-- Two runs that can be joined: they lie inside the words, and their entries ascend.
pub record Joinable (w : List ℕ) (upper lower : Run) : Type 0 where
  pub upper_inside : Inside upper (length w)
  pub lower_inside : Inside lower (length w)
  pub upper_ascends : ascending (entries_in w upper) ≡ true
  pub lower_ascends : ascending (entries_in w lower) ≡ true

-- The source of level i.
unfoldable pub source_at : Geometry → List ℕ → ℕ → Run → Run → Source
source_at g w i upper lower = record {
  upper = upper;
  lower = lower;
  below_start = level_start g (suc i);
  below = pages_of g w (suc i);
  fenced = not (eqb i (bottom g));
}

module _ (g : Geometry) (w : List ℕ) (i : ℕ) (upper lower : Run) where
  pub source_laid : level_from w (source_at g w i upper lower) ≡ level_laid g w i (join (entries_in w upper) (entries_in w lower))
  unfolding level_from source_at
  source_laid = sym (level_laid_lem g w i (join (entries_in w upper) (entries_in w lower)))

  -- It lies inside a store whose page counts are within the rooms.
  module _ (plan : Plan) (l : Lent g plan w) (b : PagesWithin g w) where
    pages_at : (j : ℕ) → 1 ≤ j → pages_of g w j ≤ room g j
    pages_at zero h = absurd (omega arith)
    pages_at (suc zero) h = b.first
    pages_at (suc (suc zero)) h = b.second
    pages_at (suc (suc (suc zero))) h = b.third
    pages_at (suc (suc (suc (suc j)))) h = rw (pages_none g w (suc (suc (suc (suc j)))) (omega (arith, l.in_range_lem.levels_most))) (omega arith)

    pub source_inside : Joinable w upper lower → i < g.levels → SourceInside w (source_at g w i upper lower)
    unfolding source_at store_words
    source_inside j u =
        let fit = l.in_range_lem in
        let few = pages_at (suc i) (omega arith) in
        record {
          upper_inside = j.upper_inside;
          lower_inside = j.lower_inside;
          below_inside = chosen (ltb (suc i) 4) refl few;
          below_few = omega (arith, few, room_small g fit (suc i));
        }
      where
        chosen : (c : Bool) → ltb (suc i) 4 ≡ c → pages_of g w (suc i) ≤ room g (suc i) → level_start g (suc i) + 64 * pages_of g w (suc i) ≤ length w
        chosen true e few =
            let h : suc i < 4 = ltb-true (suc i) 4 e in
            omega (arith, few, l.exact, level_after g (suc i), level_inside g (suc i) h)
        chosen false e few =
            let h : 4 ≤ suc i = ltb-false (suc i) 4 e in
            let n : suc i ≡ 4 = omega (arith, h, u, l.in_range_lem.levels_most) in
            rw (n, pages_none g w 4 l.in_range_lem.levels_most) (omega (arith, l.exact))

  pub source_ascends : Joinable w upper lower → SourceAscends w (source_at g w i upper lower)
  unfolding source_at
  source_ascends j = record { upper_ascends = j.upper_ascends; lower_ascends = j.lower_ascends }

-- The work area is of whole pages, and has room for any level.
module _ (g : Geometry) (fit : InRange g) (work : List ℕ) (exact : length work ≡ work_words g) where
  work_room : room_in work ≡ max (room g 1) (max (room g 2) (room g 3))
  unfolding work_words
  work_room = omega (arith, exact)

  pub whole_work : WholePages work
  unfolding work_words
  whole_work = record {
    whole = omega (arith, exact);
    some = omega (arith, work_room, room_least g fit 1 (omega arith) (omega (arith, fit.levels_least)));
    few = omega (arith, work_room, room_small g fit 1, room_small g fit 2, room_small g fit 3);
  }

  pub room_in_work : (i : ℕ) → 1 ≤ i → i ≤ 3 → room g i ≤ room_in work
  room_in_work zero l h = absurd (omega arith)
  room_in_work (suc zero) l h = omega (arith, work_room)
  room_in_work (suc (suc zero)) l h = omega (arith, work_room)
  room_in_work (suc (suc (suc zero))) l h = omega (arith, work_room)
  room_in_work (suc (suc (suc (suc i)))) l h = absurd (omega arith)

  pub slots_in_work : (i n : ℕ) → 1 ≤ i → i ≤ 3 → pages_for n ≤ room g i → n ≤ slots_in_page * room_in work
  unfolding pages_for
  slots_in_work i n l h few = omega (arith, few, room_in_work i l h)

-- A level's room lies in the store, and the work area has as much.
pub put_inside : (g : Geometry) (plan : Plan) (w work : List ℕ) (i : ℕ) → Lent g plan w → length work ≡ work_words g → 1 ≤ i → i < g.levels → {place : LevelPlace} →
    place ≡ level_place g w i → (place.start + words_in_page * place.room ≤ length w) × (words_in_page * place.room ≤ length work)
unfolding level_place
put_inside g plan w work i l exact h u e =
    let three : i ≤ 3 = omega (arith, u, l.in_range_lem.levels_most) in
    let enough = room_in_work g l.in_range_lem work exact i h three in
    (room_inside g plan w l i u e, rw e (omega (arith, enough)))

-- The first pages of a written level are the level in less room.
pub level_front : (slots : List Slot) (m n : ℕ) → m ≤ n → take (words_in_page * m) (level_words slots n) ≡ level_words slots m
level_front slots m n h =
    let e : n ≡ m + (n - m) = omega arith in
    let split : level_words slots n ≡ level_words slots m ++ concat (span (level_page slots) (0 + m) (n - m)) =
    level_pages slots n ∙ ap (λ (k : ℕ). concat (span (level_page slots) 0 k)) e ∙ ap concat (span_append (level_page slots) 0 m (n - m)) ∙
    concat_append (span (level_page slots) 0 m) (span (level_page slots) (0 + m) (n - m)) ∙
    ap (λ (l : List ℕ). l ++ concat (span (level_page slots) (0 + m) (n - m))) (sym (level_pages slots m)) in
    rw split (take_at (level_words slots m) (concat (span (level_page slots) (0 + m) (n - m))) (64 * m) (level_words_lem slots m))

-- Copied from there with its page count, the level is filled.
pub slots_small : (g : Geometry) (w work : List ℕ) (i n : ℕ) (upper lower : Run) (fit : InRange g) → length work ≡ work_words g → 1 ≤ i → i ≤ 3 →
    Fillable g i (join (entries_in w upper) (entries_in w lower)) w → n ≡ length (level_from w (source_at g w i upper lower)) → n ≤ slots_in_page * room_in work
unfolding filled_pages
slots_small g w work i n upper lower fit exact l h fits e =
    slots_in_work g fit work exact i n l h (rw (e, source_laid g w i upper lower) fits.enough)

pub level_filled : (g : Geometry) (w work : List ℕ) (i n : ℕ) (upper lower : Run) → room g i ≤ n →
    work ≡ level_words (level_from w (source_at g w i upper lower)) n →
    set (sets w (level_start g i) (take (words_in_page * room g i) work)) (pages_word i) (pages_for (length (level_from w (source_at g w i upper lower)))) ≡
    filled g i (join (entries_in w upper) (entries_in w lower)) w
unfolding filled level_put
level_filled g w work i n upper lower h e =
    rw (e, level_front (level_from w (source_at g w i upper lower)) (room g i) n h, source_laid g w i upper lower) refl

-- The source as the code makes it, from the place of the level below. Above the bottom there is one.
pub source_told : (g : Geometry) (w : List ℕ) (i : ℕ) (upper lower : Run) → i < g.levels → {place : LevelPlace} → place ≡ level_place g w (i + 1) →
    record { upper = upper; lower = lower; below_start = place.start; below = place.pages; fenced = ltb (i + 1) g.levels } ≡ source_at g w i upper lower
unfolding source_at level_place
source_told g w i upper lower u e = rw (e, add-one i, above (eqb i (bottom g)) refl) refl
  where
    above : (b : Bool) → eqb i (bottom g) ≡ b → ltb (suc i) g.levels ≡ not b
    above true q = le-ltb (suc i) g.levels (omega (arith, eqb-true i (bottom g) q))
    above false q = let d : i ≢ bottom g = eqb-false i (bottom g) q in lt-ltb (suc i) g.levels (omega (arith, u))

-- So what each step of filling a level told makes up the whole.
pub fill_told : (g : Geometry) (w : List ℕ) (i n : ℕ) (upper lower : Run) → room g i ≤ n → {source : Source} →
    source ≡ source_at g w i upper lower → {work v : List ℕ} {slots pages r : ℕ} → work ≡ level_words (level_from w source) n → slots ≡ length (level_from w source) →
    pages ≡ pages_for slots → v ≡ set (sets w (level_start g i) (take (words_in_page * room g i) work)) (pages_word i) pages → r ≡ pages →
    (v ≡ filled g i (join (entries_in w upper) (entries_in w lower)) w) × (r ≡ filled_pages g i (join (entries_in w upper) (entries_in w lower)) w)
unfolding filled_pages
fill_told g w i n upper lower b {source} s {work} {v} {slots} {pages} {r} a k p q e =
    let area : work ≡ level_words (level_from w (source_at g w i upper lower)) n = rw (← s) a in
    let count : pages ≡ pages_for (length (level_from w (source_at g w i upper lower))) = p ∙ rw (← s, ← k) refl in (
      q ∙ rw count (level_filled g w work i n upper lower b area),
      e ∙ count ∙ rw (source_laid g w i upper lower) refl,
    )
