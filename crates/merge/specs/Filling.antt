-- The words after a level is written anew, after levels are rebuilt with fences alone, after a merge, and after settling; each as a function
-- of the words before, with what it asks of them. Assumes nothing.
use Rattle.std.specs.Prelude.{ℕ, zero, suc, ◌+◌, ◌-◌, ◌≤◌, ◌≡◌, refl, Bool, true, false, not, List, [], length, set, leb, ltb}
use Rattle.std.proofs.Common.{arith, le-leb, ltb-true, ltb-false}
use Rattle.std.proofs.lemmas.List.Edits.{sets}
use Rattle.std.proofs.lemmas.Bool.{lt-leb}
use Rattle.geometry.specs.declared.Geometry.{Geometry}
use Rattle.geometry.specs.Geometry.{capacity, room}
use Rattle.geometry.specs.Places.{pages_word, head_count_word, head_start, head_room, level_start}
use Rattle.slot.specs.declared.Slot.{Slot}
use Rattle.rules.specs.Tree.{Level}
use Rattle.rules.specs.Level.{pages_for, fences}
use Rattle.rules.specs.Merging.{join}
use Rattle.rules.specs.Store.{run_words, level_words}
use Rattle.rules.specs.Sound.{first_at, level_laid, ascending}
use Rattle.geometry.specs.Directory.{pages_of}
use Rattle.entries.specs.declared.Run.{Run}
use Rattle.entries.specs.Run.{entries_in}
use Rattle.entries.specs.Levels.{PagesWithin, head_run, level_run}

-- Level i written anew in slots, with its page count; and the head, with its slot count.
unfoldable pub level_put : Geometry → ℕ → List Slot → List ℕ → List ℕ
level_put g i slots w = set (sets w (level_start g i) (level_words slots (room g i))) (pages_word i) (pages_for (length slots))

unfoldable pub head_put : Geometry → List Slot → List ℕ → List ℕ
head_put g slots w = set (sets w head_start (run_words slots (head_room g))) head_count_word (length slots)

-- Level i filled with entries over the pages below as they stand, and the pages that it takes. They have to fit its room.
unfoldable pub filled : Geometry → ℕ → Level → List ℕ → List ℕ
filled g i es w = level_put g i (level_laid g w i es) w

unfoldable pub filled_pages : Geometry → ℕ → Level → List ℕ → ℕ
filled_pages g i es w = pages_for (length (level_laid g w i es))

pub record Fillable (g : Geometry) (i : ℕ) (es : Level) (w : List ℕ) : Type 0 where
  pub within : PagesWithin g w
  pub enough : filled_pages g i es w ≤ room g i

-- The head with fences alone, and the levels from i up rebuilt with fences alone, the head last.
unfoldable pub head_rebuilt : Geometry → List ℕ → List ℕ
head_rebuilt g w = head_put g (fences (first_at g w 1) (pages_of g w 1)) w

unfoldable pub rebuilt : Geometry → ℕ → List ℕ → List ℕ
rebuilt g zero w = head_rebuilt g w
rebuilt g (suc i) w = rebuilt g i (filled g (suc i) [] w)

unfoldable pub rebuilt_pages : Geometry → ℕ → List ℕ → ℕ
rebuilt_pages g zero w = 0
rebuilt_pages g (suc i) w = filled_pages g (suc i) [] w + rebuilt_pages g i (filled g (suc i) [] w)

unfoldable pub Rebuildable : Geometry → ℕ → List ℕ → Type 0
Rebuildable g zero w = PagesWithin g w
Rebuildable g (suc i) w = Fillable g (suc i) [] w × Rebuildable g i (filled g (suc i) [] w)

-- The index entries of level i, or of the head, as a run.
unfoldable pub run_at : Geometry → List ℕ → ℕ → Run
run_at g w zero = head_run g
run_at g w (suc i) = level_run g w (suc i)

pub level_at : (g : Geometry) (w : List ℕ) (i : ℕ) → 1 ≤ i → level_run g w i ≡ run_at g w i
unfolding run_at
level_at g w zero l = absurd (omega arith)
level_at g w (suc i) l = refl

abbrev pub entries_at : Geometry → List ℕ → ℕ → Level
entries_at g w i = entries_in w (run_at g w i)

-- Level i merged into the next: that is filled with the two joined, and the levels above it are rebuilt.
unfoldable pub joined : Geometry → ℕ → List ℕ → Level
joined g i w = join (entries_at g w i) (entries_at g w (suc i))

unfoldable pub merged : Geometry → ℕ → List ℕ → List ℕ
merged g i w = rebuilt g i (filled g (suc i) (joined g i w) w)

unfoldable pub merged_pages : Geometry → ℕ → List ℕ → ℕ
merged_pages g i w = filled_pages g (suc i) (joined g i w) w + rebuilt_pages g i (filled g (suc i) (joined g i w) w)

pub record Mergeable (g : Geometry) (i : ℕ) (w : List ℕ) : Type 0 where
  pub upper_ascends : ascending (entries_at g w i) ≡ true
  pub lower_ascends : ascending (entries_at g w (suc i)) ≡ true
  pub fills : Fillable g (suc i) (joined g i w) w
  pub rebuilds : Rebuildable g i (filled g (suc i) (joined g i w) w)

-- Level i settled, with n levels below it: the words, the deepest level merged into, and the pages written.
pub record Outcome : Type 0 where
  pub words : List ℕ
  pub deepest : ℕ
  pub pages : ℕ

abbrev pub outcome : List ℕ → ℕ → ℕ → Outcome
outcome w deepest pages = record { words = w; deepest = deepest; pages = pages }

-- What came of settling the level below, after pages that a merge wrote.
abbrev pub after : ℕ → Outcome → Outcome
after pages o = outcome o.words o.deepest (pages + o.pages)

-- Whether level i holds fewer than its capacity.
unfoldable pub room_at : Geometry → List ℕ → ℕ → Bool
room_at g w i = ltb (length (entries_at g w i)) (capacity g i)

pub full_told : (g : Geometry) (w : List ℕ) (i cap n : ℕ) → cap ≡ capacity g i → n ≡ length (entries_at g w i) → leb cap n ≡ not (room_at g w i)
unfolding room_at
full_told g w i cap n e q = rw (← e, ← q) (chosen (ltb n cap) refl)
  where
    chosen : (b : Bool) → ltb n cap ≡ b → leb cap n ≡ not (ltb n cap)
    chosen true t = rw (t, lt-leb cap n (ltb-true n cap t)) refl
    chosen false t = rw (t, le-leb cap n (ltb-false n cap t)) refl

unfoldable pub settled : Geometry → ℕ → ℕ → List ℕ → Outcome
settled g zero i w = outcome w i 0
settled g (suc n) i w = elim (room_at g w i) [ true ↦ outcome w i 0 | false ↦ after (merged_pages g i w) (settled g n (suc i) (merged g i w)) ]

-- Level i merged and then the next settled, with n levels below level i.
unfoldable pub merged_on : Geometry → ℕ → ℕ → List ℕ → Outcome
merged_on g n i w = after (merged_pages g i w) (settled g (n - 1) (suc i) (merged g i w))

unfoldable pub Settleable : Geometry → ℕ → ℕ → List ℕ → Type 0
Settleable g zero i w = PagesWithin g w
Settleable g (suc n) i w =
    PagesWithin g w × (elim (room_at g w i) as (λ _. Type 0) [ true ↦ Unit {0} | false ↦ Mergeable g i w × Settleable g n (suc i) (merged g i w) ])
