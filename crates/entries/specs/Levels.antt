-- The runs of a store's levels: their entries are those of the tree that the words hold. Assumes nothing.
use Rattle.std.specs.Prelude.{ℕ, zero, suc, ◌+◌, ◌-◌, ◌*◌, ◌≤◌, ◌<◌, min, ◌≡◌, refl, List, [], ◌∷◌, get_or}
use Rattle.std.proofs.Common.{add-zero, arith, ap, sym, append-nil}
use Rattle.std.proofs.Math.Path.{fun_ext}
use Rattle.laws.specs.Lists.{span, concat}
use Rattle.geometry.specs.declared.Geometry.{Geometry}
use Rattle.geometry.specs.Geometry.{InRange, room}
use Rattle.geometry.specs.Places.{head_count_word, slots_in_page, head_room, level_start, page_place, slot_place, store_words, directory_words}
use Rattle.geometry.specs.Bounds.{room_small}
use Rattle.geometry.specs.Apart.{level_one, level_after, level_inside}
use Rattle.slot.specs.declared.Slot.{Slot}
use Rattle.slot.specs.Slot.{slot_at}
use Rattle.rules.specs.Tree.{Level, Tree}
use Rattle.rules.specs.Sound.{slots_from, head_slots, count_at, page_slots, level_slots, entries_of, tree_of}
use Rattle.geometry.specs.Directory.{pages_of, pages_none}
use Rattle.entries.specs.declared.Run.{Run}
use Rattle.entries.specs.Four.{Runs}
use Rattle.entries.specs.Run.{Inside, count_in, place_in, page_in, entries_in}

-- The head is a run of one page, whose slot count stands in word 8; level i's pages begin at its start.
unfoldable pub head_run : Geometry → Run
head_run g = record { start = head_count_word; pages = 1; most = head_room g }

unfoldable pub level_run : Geometry → List ℕ → ℕ → Run
level_run g w i = record { start = level_start g i; pages = pages_of g w i; most = slots_in_page }

unfoldable pub runs_of : Geometry → List ℕ → Runs
runs_of g w = record { head = head_run g; first = level_run g w 1; second = level_run g w 2; third = level_run g w 3 }

-- The entries of four runs as a tree.
unfoldable pub tree_in : List ℕ → Runs → Tree
tree_in w rs = entries_in w rs.head ∷ entries_in w rs.first ∷ entries_in w rs.second ∷ entries_in w rs.third ∷ []

-- Four runs lie inside a slice of `words` words.
pub record AllInside (rs : Runs) (words : ℕ) : Type 0 where
  pub head : Inside rs.head words
  pub first : Inside rs.first words
  pub second : Inside rs.second words
  pub third : Inside rs.third words

-- The directory's page counts are within the rooms.
pub record PagesWithin (g : Geometry) (w : List ℕ) : Type 0 where
  pub first : pages_of g w 1 ≤ room g 1
  pub second : pages_of g w 2 ≤ room g 2
  pub third : pages_of g w 3 ≤ room g 3

-- The entries of a level's run are those of its slots, and so with the head.
pub page_slots_lem : (g : Geometry) (w : List ℕ) (i p : ℕ) → page_in w (level_run g w i) p ≡ page_slots g w i p
unfolding level_run page_in count_in place_in page_slots count_at slot_place page_place slots_from
page_slots_lem g w i p = ap (λ (at : ℕ). span (λ j. slot_at w (at + 3 * j)) 0 (min (get_or w (level_start g i + 64 * p) 0) 21)) (sym (add-zero (level_start g i + 64 * p + 1)))

pub level_entries : (g : Geometry) (w : List ℕ) (i : ℕ) → entries_in w (level_run g w i) ≡ entries_of (level_slots g w i)
unfolding entries_in level_run level_slots
level_entries g w i = ap (λ (f : ℕ → List Slot). entries_of (concat (span f 0 (pages_of g w i)))) (fun_ext (page_slots_lem g w i))

pub head_entries : (g : Geometry) (w : List ℕ) → entries_in w (head_run g) ≡ entries_of (head_slots g w)
unfolding entries_in head_run page_in count_in place_in head_slots slots_from span concat
head_entries g w = ap entries_of (append-nil _)

pub level_none : (g : Geometry) (w : List ℕ) (i : ℕ) → g.levels ≤ i → entries_of (level_slots g w i) ≡ []
unfolding level_slots span concat entries_of
level_none g w i h = ap (λ (n : ℕ). entries_of (concat (span (page_slots g w i) 0 n))) (pages_none g w i h)

-- What is so of a tree of two, three or four levels and of the same with empty levels below is so of the tree that the words hold and
-- of the four runs' entries.
pub by_levels : (g : Geometry) (w : List ℕ) → InRange g → (Q : Tree → Tree → Type 0) →
    ((a b : Level) → Q (a ∷ b ∷ []) (a ∷ b ∷ [] ∷ [] ∷ [])) →
    ((a b c : Level) → Q (a ∷ b ∷ c ∷ []) (a ∷ b ∷ c ∷ [] ∷ [])) →
    ((a b c d : Level) → Q (a ∷ b ∷ c ∷ d ∷ []) (a ∷ b ∷ c ∷ d ∷ [])) →
    Q (tree_of g w) (tree_in w (runs_of g w))
unfolding tree_in runs_of tree_of span
by_levels g w fit Q two three four =
    rw (head_entries g w, level_entries g w 1, level_entries g w 2, level_entries g w 3) (picked g.levels refl fit.levels_least fit.levels_most)
  where
    picked : (n : ℕ) → g.levels ≡ n → 2 ≤ n → n ≤ 4 →
        Q (entries_of (head_slots g w) ∷ span (λ i. entries_of (level_slots g w i)) 1 (n - 1))
        (entries_of (head_slots g w) ∷ entries_of (level_slots g w 1) ∷ entries_of (level_slots g w 2) ∷ entries_of (level_slots g w 3) ∷ [])
    picked zero e h k = absurd (omega arith)
    picked (suc zero) e h k = absurd (omega arith)
    picked (suc (suc zero)) e h k = rw (level_none g w 2 (omega arith), level_none g w 3 (omega arith)) (two _ _)
    picked (suc (suc (suc zero))) e h k = rw (level_none g w 3 (omega arith)) (three _ _ _)
    picked (suc (suc (suc (suc zero)))) e h k = four _ _ _ _
    picked (suc (suc (suc (suc (suc n))))) e h k = absurd (omega arith)

-- The runs of a store of the right length whose page counts are within the rooms lie inside it.
module _ (g : Geometry) (w : List ℕ) (fit : InRange g) where
  level_run_inside : (i : ℕ) → i < 4 → pages_of g w i ≤ room g i → Inside (level_run g w i) (store_words g)
  unfolding level_run
  level_run_inside i h b = record {
    ends = omega (arith, level_after g i, level_inside g i h);
    few_pages = omega (arith, room_small g fit i);
    few_slots = omega arith;
  }

  pub runs_inside : PagesWithin g w → AllInside (runs_of g w) (store_words g)
  unfolding runs_of head_run head_room
  runs_inside b = record {
    head = record { ends = omega (arith, level_one g, level_after g 1, level_inside g 1 (omega arith)); few_pages = omega arith; few_slots = omega (arith, fit.head_most, room_small g fit 1) };
    first = level_run_inside 1 (omega arith) b.first;
    second = level_run_inside 2 (omega arith) b.second;
    third = level_run_inside 3 (omega arith) b.third;
  }

-- The store has its directory.
pub store_nine : (g : Geometry) → directory_words ≤ store_words g
unfolding store_words level_start
store_nine g = omega arith
