-- Storing other slots over a level or the head of a store that is laid out in slots, with their count in the directory, lays the store out
-- anew; so does storing another number of live pairs. Assumes nothing.
use Rattle.std.specs.Prelude.{ℕ, zero, suc, ◌+◌, ◌*◌, ◌≤◌, ◌<◌, ◌≡◌, refl, Bool, ◌≢◌, length, get_or, take, drop, set, ltb, eqb}
use Rattle.std.proofs.Common.{arith, sym, ◌∙◌, length-set, get_or-set_same, get_or-set_other, ltb-true, ltb-false, eqb-true}
use Rattle.std.proofs.Math.Path.{ap}
use Rattle.std.proofs.Math.Bool.{true, false}
use mathlib.Core.List.{List, [], ◌∷◌}
use Rattle.std.proofs.lemmas.List.Edits.{sets}
use Rattle.std.proofs.Math.Seq.{length-sets, take-set-lt}
use Rattle.std.proofs.lemmas.Bool.{eqb-false}
use Rattle.laws.specs.Sets.{part_before, part_behind, part_stored}
use Rattle.geometry.specs.declared.Geometry.{Geometry}
use Rattle.geometry.specs.Geometry.{InRange, room}
use Rattle.geometry.specs.Places.{live_word, pages_word, head_count_word, head_start, head_room, level_start, directory_words}
use Rattle.geometry.specs.Apart.{level_after, level_inside}
use Rattle.geometry.proofs.Apart.{level_before}
use Rattle.slot.specs.declared.Slot.{Slot}
use Rattle.rules.specs.Level.{pages_for}
use Rattle.rules.specs.Store.{run_words, level_words, page_count, directory, laid_out}
use Rattle.rules.specs.Good.{SlotsFit, Fits}
use Rattle.layout.specs.Run.{run_words_lem}
use Rattle.layout.specs.Pages.{level_words_lem}
use Rattle.stored.specs.Parts.{Parts, laid_parts, parts_laid, page_count_lem}

-- Another number of live pairs.
pub live_replaced : (g : Geometry) (live : ℕ) (ss : List (List Slot)) (n : ℕ) → set (laid_out g live ss) live_word n ≡ laid_out g n ss
unfolding laid_out directory
live_replaced g live ss n = refl

-- The head's words end before every level's.
pub head_before : (g : Geometry) (i : ℕ) → head_start + 3 * head_room g ≤ level_start g i
unfolding level_start
head_before g i = omega arith

module _ (g : Geometry) (ss : List (List Slot)) (i : ℕ) (slots : List Slot) (there : i < length ss) where
  -- Where the slots of level i are others, its page count is theirs, and other levels' slots and page counts stay.
  slots_here : get_or (set ss i slots) i [] ≡ slots
  slots_here = get_or-set_same ss i slots [] there

  slots_other : (j : ℕ) → j ≢ i → get_or (set ss i slots) j [] ≡ get_or ss j []
  slots_other j d = get_or-set_other ss i j slots [] d

  count_other : (j : ℕ) → j ≢ i → page_count g (set ss i slots) j ≡ page_count g ss j
  unfolding page_count
  count_other j d = ap (λ (l : List Slot). elim (ltb j g.levels) as (λ b. ℕ) [ true ↦ pages_for (length l) | false ↦ 0 ]) (slots_other j d)

  count_here : i < g.levels → page_count g (set ss i slots) i ≡ pages_for (length slots)
  count_here u = page_count_lem g (set ss i slots) i u ∙ ap (λ (l : List Slot). pages_for (length l)) slots_here

-- So is the directory, where the count is stored in it.
directory_level : (g : Geometry) (live : ℕ) (ss : List (List Slot)) (i : ℕ) (slots : List Slot) → i < length ss → 1 ≤ i → i < g.levels → i ≤ 3 →
    set (directory g live ss) (pages_word i) (pages_for (length slots)) ≡ directory g live (set ss i slots)
unfolding directory
directory_level g live ss zero slots h l u v = absurd (omega arith)
directory_level g live ss (suc zero) slots h l u v =
    rw (
      slots_other g ss 1 slots h 0 (λ e. omega (arith, e)),
      count_here g ss 1 slots h u,
      count_other g ss 1 slots h 2 (λ e. omega (arith, e)),
      count_other g ss 1 slots h 3 (λ e. omega (arith, e)),
    ) refl
directory_level g live ss (suc (suc zero)) slots h l u v =
    rw (
      slots_other g ss 2 slots h 0 (λ e. omega (arith, e)),
      count_other g ss 2 slots h 1 (λ e. omega (arith, e)),
      count_here g ss 2 slots h u,
      count_other g ss 2 slots h 3 (λ e. omega (arith, e)),
    ) refl
directory_level g live ss (suc (suc (suc zero))) slots h l u v =
    rw (
      slots_other g ss 3 slots h 0 (λ e. omega (arith, e)),
      count_other g ss 3 slots h 1 (λ e. omega (arith, e)),
      count_other g ss 3 slots h 2 (λ e. omega (arith, e)),
      count_here g ss 3 slots h u,
    ) refl
directory_level g live ss (suc (suc (suc (suc i)))) slots h l u v = absurd (omega arith)

directory_head : (g : Geometry) (live : ℕ) (ss : List (List Slot)) (slots : List Slot) → 0 < length ss →
    set (directory g live ss) head_count_word (length slots) ≡ directory g live (set ss 0 slots)
unfolding directory
directory_head g live ss slots h =
    rw (
      slots_here g ss 0 slots h,
      count_other g ss 0 slots h 1 (λ e. omega (arith, e)),
      count_other g ss 0 slots h 2 (λ e. omega (arith, e)),
      count_other g ss 0 slots h 3 (λ e. omega (arith, e)),
    ) refl

-- The slots still fit, where the new ones do.
fits_other : (g : Geometry) (ss : List (List Slot)) (i : ℕ) (slots : List Slot) → i < length ss → Fits g ss → SlotsFit slots → (j : ℕ) →
    SlotsFit (get_or (set ss i slots) j [])
fits_other g ss i slots there fits new j = chosen (eqb j i) refl
  where
    chosen : (b : Bool) → eqb j i ≡ b → SlotsFit (get_or (set ss i slots) j [])
    chosen true e = rw (eqb-true j i e, slots_here g ss i slots there) new
    chosen false e = rw (slots_other g ss i slots there j (eqb-false j i e)) (fits.slots j)

pub level_replaced_fits : (g : Geometry) (ss : List (List Slot)) (i : ℕ) (slots : List Slot) → Fits g ss → 1 ≤ i → i < g.levels → pages_for (length slots) ≤ room g i →
    SlotsFit slots → Fits g (set ss i slots)
level_replaced_fits g ss i slots fits l u few new = record {
  levels = length-set ss i slots ∙ fits.levels;
  head = rw (slots_other g ss i slots there 0 (λ e. omega (arith, e))) fits.head;
  rooms = λ j a b. chosen j a b (eqb j i) refl;
  slots = fits_other g ss i slots there fits new;
}
  where
    there : i < length ss
    there = omega (arith, fits.levels)

    chosen : (j : ℕ) → 1 ≤ j → j < g.levels → (b : Bool) → eqb j i ≡ b → pages_for (length (get_or (set ss i slots) j [])) ≤ room g j
    chosen j a b true e = rw (eqb-true j i e, slots_here g ss i slots there) few
    chosen j a b false e = rw (slots_other g ss i slots there j (eqb-false j i e)) (fits.rooms j a b)

pub head_replaced_fits : (g : Geometry) (ss : List (List Slot)) (slots : List Slot) → InRange g → Fits g ss → length slots ≤ head_room g → SlotsFit slots →
    Fits g (set ss 0 slots)
head_replaced_fits g ss slots fit fits few new = record {
  levels = length-set ss 0 slots ∙ fits.levels;
  head = rw (slots_here g ss 0 slots there) few;
  rooms = λ j a b. rw (slots_other g ss 0 slots there j (λ e. omega (arith, e))) (fits.rooms j a b);
  slots = fits_other g ss 0 slots there fits new;
}
  where
    there : 0 < length ss
    there = omega (arith, fits.levels, fit.levels_least)

-- What stands after words are stored behind the directory, and one word in it: each part that they do not reach is as it was.
record After (w : List ℕ) (at : ℕ) (vs : List ℕ) (word n : ℕ) (now : List ℕ) : Type 0 where
  whole : length now ≡ length w
  front : take directory_words now ≡ set (take directory_words w) word n
  before : (a k : ℕ) → directory_words ≤ a → a + k ≤ at → take k (drop a now) ≡ take k (drop a w)
  behind : (a k : ℕ) → at + length vs ≤ a → take k (drop a now) ≡ take k (drop a w)
  here : take (length vs) (drop at now) ≡ vs

stored_after : (w : List ℕ) (at : ℕ) (vs : List ℕ) (word n : ℕ) → word < directory_words → directory_words ≤ at → at + length vs ≤ length w → After w at vs word n (set (sets w at vs) word n)
stored_after w at vs word n f b h = record {
  whole = length-set (sets w at vs) word n ∙ length-sets w at vs;
  front = take-set-lt directory_words (sets w at vs) word n f ∙ ap (λ (l : List ℕ). set l word n) (part_before w at vs 0 directory_words b);
  before = λ a k l u. past a k l ∙ part_before w at vs a k u;
  behind = λ a k l. past a k (omega arith) ∙ part_behind w at vs a k l;
  here = past at (length vs) b ∙ part_stored w at vs h;
}
  where
    past : (a k : ℕ) → directory_words ≤ a → take k (drop a (set (sets w at vs) word n)) ≡ take k (drop a (sets w at vs))
    past a k l = part_behind (sets w at vs) word (n ∷ []) a k (omega arith)

module _ (g : Geometry) (live : ℕ) (ss : List (List Slot)) (fit : InRange g) (fits : Fits g ss) where
  laid : Parts g live ss (laid_out g live ss)
  laid = laid_parts g live ss fit fits.head

  -- The slots of level i replaced, and its page count.
  pub level_replaced : (i : ℕ) (slots : List Slot) → 1 ≤ i → i < g.levels →
      sets (sets (laid_out g live ss) (level_start g i) (level_words slots (room g i))) (pages_word i) (pages_for (length slots) ∷ []) ≡ laid_out g live (set ss i slots)
  level_replaced i slots l u = parts_laid g live (set ss i slots) fit now (record {
    whole = stored.whole ∙ laid.whole;
    front = stored.front ∙ rw laid.front (directory_level g live ss i slots there l u (omega (arith, fit.levels_most)));
    head =
        stored.before head_start (3 * head_room g) (omega arith) (head_before g i) ∙ laid.head ∙
        ap (λ (s : List Slot). run_words s (head_room g)) (sym (slots_other g ss i slots there 0 (λ e. omega (arith, e))));
    levels = λ j a b. chosen j a b (eqb j i) refl;
  })
    where
      vs : List ℕ
      vs = level_words slots (room g i)

      now : List ℕ
      now = set (sets (laid_out g live ss) (level_start g i) vs) (pages_word i) (pages_for (length slots))

      there : i < length ss
      there = omega (arith, fits.levels)

      reach : length vs ≡ 64 * room g i
      reach = level_words_lem slots (room g i)

      stored : After (laid_out g live ss) (level_start g i) vs (pages_word i) (pages_for (length slots)) now
      stored =
          stored_after (laid_out g live ss) (level_start g i) vs (pages_word i) (pages_for (length slots)) (omega (arith, fit.levels_most)) (omega (arith, head_before g i))
          (omega (arith, reach, laid.whole, level_after g i, level_inside g i (omega (arith, fit.levels_most))))

      other : (j : ℕ) → j ≢ i → (t : Bool) → ltb j i ≡ t →
          take (64 * room g j) (drop (level_start g j) now) ≡ take (64 * room g j) (drop (level_start g j) (laid_out g live ss))
      other j d true t = stored.before (level_start g j) (64 * room g j) (omega (arith, head_before g j)) (level_before g j i (ltb-true j i t))
      other j d false t = stored.behind (level_start g j) (64 * room g j) (omega (arith, reach, level_before g i j (omega (arith, ltb-false j i t))))

      chosen : (j : ℕ) → 1 ≤ j → j < g.levels → (t : Bool) → eqb j i ≡ t →
          take (64 * room g j) (drop (level_start g j) now) ≡ level_words (get_or (set ss i slots) j []) (room g j)
      chosen j a b true t = rw (eqb-true j i t, slots_here g ss i slots there) (rw reach at stored.here)
      chosen j a b false t =
          let d : j ≢ i = eqb-false j i t in
          other j d (ltb j i) refl ∙ laid.levels j a b ∙ ap (λ (s : List Slot). level_words s (room g j)) (sym (slots_other g ss i slots there j d))

  -- The slots of the head replaced, and their count.
  pub head_replaced : (slots : List Slot) → length slots ≤ head_room g →
      sets (sets (laid_out g live ss) head_start (run_words slots (head_room g))) head_count_word (length slots ∷ []) ≡ laid_out g live (set ss 0 slots)
  head_replaced slots h = parts_laid g live (set ss 0 slots) fit now (record {
    whole = stored.whole ∙ laid.whole;
    front = stored.front ∙ rw laid.front (directory_head g live ss slots there);
    head = (rw reach at stored.here) ∙ ap (λ (s : List Slot). run_words s (head_room g)) (sym (slots_here g ss 0 slots there));
    levels = λ j a b.
        stored.behind (level_start g j) (64 * room g j) (omega (arith, reach, head_before g j)) ∙ laid.levels j a b ∙
        ap (λ (s : List Slot). level_words s (room g j)) (sym (slots_other g ss 0 slots there j (λ e. omega (arith, e))));
  })
    where
      vs : List ℕ
      vs = run_words slots (head_room g)

      now : List ℕ
      now = set (sets (laid_out g live ss) head_start vs) head_count_word (length slots)

      there : 0 < length ss
      there = omega (arith, fits.levels, fit.levels_least)

      reach : length vs ≡ 3 * head_room g
      reach = run_words_lem slots (head_room g) h

      stored : After (laid_out g live ss) head_start vs head_count_word (length slots) now
      stored =
          stored_after (laid_out g live ss) head_start vs head_count_word (length slots) (omega arith) (omega arith)
          (omega (arith, reach, laid.whole, head_before g 1, level_inside g 0 (omega arith)))
