-- Where a level is first wrong, from what the code finds: how many entries it may have, and the leftmost of what was found. Assumes nothing.
use Rattle.std.specs.Prelude.{ℕ, zero, suc, ◌-◌, ◌*◌, ◌≤◌, ◌<◌, min, Bool, List, get_or}
use Rattle.std.proofs.Common.{arith, ◌∙◌}
use Rattle.std.proofs.Math.Path.{◌≡◌, refl}
use Rattle.std.proofs.Math.Bool.{true, false}
use Rattle.std.proofs.Math.Dec.{eqb}
use borrow.Author.Tests.{eqb-true, lt-ltb, le-ltb}
use Rattle.geometry.specs.declared.Geometry.{Geometry}
use Rattle.geometry.specs.declared.Plan.{Plan}
use Rattle.geometry.specs.Geometry.{bottom, capacity, most, room}
use Rattle.geometry.specs.Places.{slots_in_page}
use Rattle.geometry.specs.Bounds.{capacity_least}
use Rattle.geometry.specs.Lent.{Lent}
use Rattle.geometry.proofs.Lent.{capacities_at}
use Rattle.rules.specs.Sound.{level_slots, entries_of, directory_right}
use Rattle.rules.specs.Faults.{rising, entries_most, entry_places, level_leaves, level_wrong}
use Rattle.entries.specs.Levels.{level_run, level_entries}
use Rattle.entries.specs.Placed.{places_in, level_places}
use Rattle.leaving.specs.declared.Writing.{Writing}
use Rattle.astray.specs.Places.{level_writing}
use Rattle.leaving.specs.Search.{leaves_at}
use Rattle.astray.specs.Places.{level_told}
use Rattle.astray.specs.Rising.{entry_astray}

-- How many entries a level of this capacity may have.
unfoldable pub most_of : Geometry → ℕ → ℕ → ℕ
most_of g i capacity = elim (eqb i (bottom g)) [ true ↦ capacity | false ↦ capacity - 1 ]

module _ (g : Geometry) (plan : Plan) (w : List ℕ) (lent : Lent g plan w) (i : ℕ) (u : i < g.levels) where
  pub some_most : 1 ≤ get_or plan.capacities i 0
  some_most = rw (capacities_at g plan w lent i u) (capacity_least g lent.in_range_lem i)

  most_of_lem : most_of g i (get_or plan.capacities i 0) ≡ entries_most g i
  unfolding most_of entries_most most
  most_of_lem = rw (capacities_at g plan w lent i u) (by (eqb i (bottom g)) refl)
    where
      by : (b : Bool) → eqb i (bottom g) ≡ b → ◌≡◌ {A = ℕ} (elim b [ true ↦ capacity g i | false ↦ capacity g i - 1 ]) (elim b [ true ↦ capacity g (bottom g) | false ↦ capacity g i - 1 ])
      by true q = rw (eqb-true i (bottom g) q) refl
      by false q = refl

level_numbers : (g : Geometry) (w : List ℕ) (i : ℕ) → 1 ≤ i → places_in w (level_run g w i) ≡ entry_places g w i
level_numbers g w zero l = absurd (omega arith)
level_numbers g w (suc i) l = level_places g w i

-- The leftmost of what was found: within the room it is where the level is wrong; else it is the first slot past the level's pages.
module _ (g : Geometry) (plan : Plan) (w : List ℕ) (lent : Lent g plan w) (right : directory_right g w ≡ true) (i : ℕ) (l : 1 ≤ i) (u : i < g.levels) where
  module _ (writing : Writing) (is : writing ≡ level_writing g w i) (top slot entry first : ℕ) (may : top ≡ most_of g i (get_or plan.capacities i 0))
      (leaves : slot ≡ leaves_at w writing) (falls : entry ≡ entry_astray w writing.own top (slots_in_page * writing.room)) (least : first ≡ min slot entry) where
    abbrev end : ℕ
    end = slots_in_page * room g i

    abbrev leftmost : ℕ
    leftmost = min (level_leaves g w i) (get_or (entry_places g w i) (min (rising (entries_of (level_slots g w i))) (entries_most g i)) end)

    slot_told : slot ≡ level_leaves g w i
    slot_told = leaves ∙ rw is (level_told g plan w lent right i l u)

    entry_told : entry ≡ get_or (entry_places g w i) (min (rising (entries_of (level_slots g w i))) (entries_most g i)) end
    unfolding entry_astray level_writing
    entry_told = falls ∙ rw (is, may, most_of_lem g plan w lent i u, level_numbers g w i l, level_entries g w i) refl

    first_told : first ≡ leftmost
    first_told = least ∙ rw (slot_told, entry_told) refl

    room_told : writing.room ≡ room g i
    unfolding level_writing
    room_told = rw is refl

    pub wrong_inside : first < slots_in_page * writing.room → first ≡ level_wrong g w i
    unfolding level_wrong
    wrong_inside h =
        let b : leftmost < end = omega (arith, first_told, room_told) in
        first_told ∙ rw (lt-ltb leftmost end b) refl

    pub wrong_past : slots_in_page * writing.room ≤ first → slots_in_page * writing.own.pages ≡ level_wrong g w i
    unfolding level_wrong level_writing level_run
    wrong_past h =
        let b : end ≤ leftmost = omega (arith, first_told, room_told) in
        rw (is, le-ltb leftmost end b) refl
