-- The writings that the head and a level should be lie inside a lent store whose directory is right, and the first slot that does not stand is
-- where the rules say that the words leave the writing. Assumes nothing.
use Rattle.std.specs.Prelude.{ℕ, suc, ◌≤◌, ◌<◌, ◌≡◌, Bool, true, false, not, List, get_or, leb, ltb, eqb}
use native.Mathlib.Omega.{arith}
use Rattle.std.proofs.Math.Path.{refl}
use Rattle.std.proofs.Common.{sym}
use Rattle.std.proofs.Math.ListN.{length}
use borrow.Author.Tests.{leb-true, leb-false, ltb-true}
use Rattle.laws.specs.Lists.{length_span}
use Rattle.laws.specs.Tests.{and_six}
use Rattle.geometry.specs.declared.Geometry.{Geometry}
use Rattle.geometry.specs.declared.Plan.{Plan}
use Rattle.geometry.specs.Geometry.{bottom, room}
use Rattle.geometry.specs.Places.{head_count_word, head_room, level_start}
use Rattle.geometry.specs.Bounds.{room_small}
use Rattle.geometry.specs.Directory.{pages_of, pages_none, level_place}
use Rattle.geometry.specs.Lent.{Lent}
use Rattle.geometry.proofs.Lent.{head_least}
use Rattle.slot.specs.declared.Slot.{Slot}
use Rattle.rules.specs.Level.{fence_of, fences, weave}
use Rattle.rules.specs.Sound.{head_slots, level_slots, entries_of, directory_right, head_right, first_at, level_laid}
use Rattle.rules.specs.Directed.{pages_fit}
use Rattle.rules.specs.Faults.{head_words, head_leaves, level_leaves}
use Rattle.layout.specs.Words.{laid_over}
use Rattle.written.specs.Written.{HeadInside, LevelInside}
use Rattle.written.specs.Parts.{first_at_lem, level_laid_lem}
use Rattle.written.specs.Inside.{level_places, head_places}
use Rattle.entries.specs.Levels.{head_run, level_run, head_entries, level_entries}
use Rattle.leaving.specs.declared.Writing.{Writing}
use Rattle.leaving.proofs.Leaving.{head_leaving, level_leaving}
use Rattle.leaving.specs.Writing.{Within, writes}
use Rattle.leaving.specs.Along.{weave_most}
use Rattle.leaving.specs.Search.{leaves_at}

-- The writings that the head and level i should be.
unfoldable pub head_writing : Geometry → List ℕ → Writing
head_writing g w = record { own = head_run g; room = 1; fenced = false; below = level_place g w 1 }

unfoldable pub level_writing : Geometry → List ℕ → ℕ → Writing
level_writing g w i = record { own = level_run g w i; room = room g i; fenced = not (eqb i (bottom g)); below = level_place g w (suc i) }

module _ (g : Geometry) (plan : Plan) (w : List ℕ) (lent : Lent g plan w) (right : directory_right g w ≡ true) where
  -- A level's pages are few.
  few_below : (i : ℕ) → 1 ≤ i → pages_of g w i ≤ 2000
  few_below i l = by (leb g.levels i) refl
    where
      by : (b : Bool) → leb g.levels i ≡ b → pages_of g w i ≤ 2000
      by true e = omega (arith, pages_none g w i (leb-true g.levels i e))
      by false e =
          let h = leb-false g.levels i e in
          omega (arith, pages_fit g w right i l (omega (arith, lent.in_range_lem.levels_most)), room_small g lent.in_range_lem i)

  module _ (headed : head_right g w ≡ true) where
    pub head_within : (writing : Writing) → writing ≡ head_writing g w → Within w writing
    unfolding head_writing head_run head_room level_place
    head_within writing is =
        let inside : HeadInside w 9 (head_room g) (get_or w head_count_word 0) (level_start g 1) (pages_of g w 1) = head_places g w lent.in_range_lem right lent.exact headed in
        rw is (record {
          ends = omega (arith, inside.room_inside);
          few_pages = omega arith;
          some_slots = head_least g plan w lent;
          few_slots = omega (arith, lent.in_range_lem.head_most, room_small g lent.in_range_lem 1);
          pages_most = omega arith;
          below_inside = inside.below_inside;
          below_few = few_below 1 (omega arith);
        })

    -- The head has room for its writing.
    abbrev head_slots_right : List Slot
    head_slots_right = weave (entries_of (head_slots g w)) (fences (first_at g w 1) (pages_of g w 1))

    head_fits : length head_slots_right ≤ head_room g
    unfolding head_right head_room fences
    head_fits =
        let tests = and_six (leb (get_or w head_count_word 0) (head_room g)) (ltb (length (entries_of (head_slots g w))) g.head) _ _ _ _ headed in
        let few : length (entries_of (head_slots g w)) < g.head = ltb-true _ _ tests.1 in
        omega (
          arith,
          pages_fit g w right 1 (omega arith) (omega arith),
          weave_most (entries_of (head_slots g w)) (fences (first_at g w 1) (pages_of g w 1)),
          length_span (fence_of (first_at g w 1)) 0 (pages_of g w 1),
        )

    head_writes : writes w (head_writing g w) ≡ head_slots_right
    unfolding writes head_writing laid_over level_place
    head_writes = rw (head_entries g w, first_at_lem g w 1) refl

    pub head_told : leaves_at w (head_writing g w) ≡ head_leaves g w
    unfolding leaves_at head_leaves head_words head_writing head_run
    head_told = rw head_writes (head_leaving w (head_run g) head_slots_right (head_least g plan w lent) head_fits)

  module _ (i : ℕ) (l : 1 ≤ i) (u : i < g.levels) where
    pub level_within : (writing : Writing) → writing ≡ level_writing g w i → Within w writing
    unfolding level_writing level_run level_place
    level_within writing is =
        let inside : LevelInside w (level_start g i) (room g i) (pages_of g w i) (level_start g (suc i)) (pages_of g w (suc i)) = level_places g w lent.in_range_lem right lent.exact i l u in
        rw is (record {
          ends = omega (arith, inside.room_inside);
          few_pages = room_small g lent.in_range_lem i;
          some_slots = omega arith;
          few_slots = omega arith;
          pages_most = inside.pages_most;
          below_inside = inside.below_inside;
          below_few = few_below (suc i) (omega arith);
        })

    level_writes : writes w (level_writing g w i) ≡ level_laid g w i (entries_of (level_slots g w i))
    unfolding writes level_writing level_place
    level_writes = rw (level_entries g w i) (sym (level_laid_lem g w i (entries_of (level_slots g w i))))

    pub level_told : leaves_at w (level_writing g w i) ≡ level_leaves g w i
    unfolding leaves_at level_leaves level_writing level_run
    level_told = rw level_writes (level_leaving w (level_run g w i) (level_laid g w i (entries_of (level_slots g w i))) (room g i) refl)
