-- The page rooms suffice: what the levels of a tree may hold at most is written in the rooms made for it. Assumes nothing.
use Prim.Native.Nat.{ℕ, zero, suc, ◌+◌, ◌≤◌, ◌<◌, ◌^◌}
use Rattle.std.proofs.Common.{add-zero, add-suc, suc-add, arith, ◌∙◌, ltb-true, ltb-false}
use Rattle.std.specs.Prelude.{◌≡◌, refl, Bool, true, false, length, get_or, ltb}
use Rattle.std.proofs.Math.Path.{ap}
use mathlib.Core.List.{List, [], ◌∷◌}
use Rattle.std.proofs.lemmas.List.{length-map}
use Rattle.std.proofs.Math.ListN.{get_or-eq_default}
use Rattle.geometry.specs.declared.Geometry.{Geometry}
use Rattle.geometry.specs.Geometry.{InRange, bottom, capacity, most, total, room}
use Rattle.geometry.specs.Places.{head_room}
use Rattle.geometry.specs.Bounds.{capacity_zero, capacity_least, room_small, room_bottom, room_above}
use Rattle.slot.specs.declared.Slot.{Slot}
use Rattle.rules.specs.Tree.{Level, Tree, level}
use Rattle.rules.specs.Level.{index, pages_for, paged, over, laid, head_on, slots_of}
use Rattle.rules.specs.Good.{TreeFits, Roomy, SlotsFit, Fits}
use Rattle.rules.specs.Pages.{pages_some}
use Rattle.rules.specs.Laid.{laid_length, laid_above, head_over, laid_alone}
use Rattle.good.specs.Pages.{over_length, paged_pages, pages_within}
use Rattle.good.specs.Fitting.{over_fits, laid_fits}
use Rattle.good.specs.Room.{no_slots}

module _ (g : Geometry) (fit : InRange g) where
  -- The bottom's pages, and those of a level over a level that has its room.
  bottom_pages : (i n : ℕ) → 1 ≤ i → g.levels ≡ suc i → n ≤ most g → pages_for n ≤ room g i
  unfolding most
  bottom_pages i n h l m =
      let b : bottom g ≡ i = omega (arith, l) in
      let c : n ≤ capacity g i = rw b at m in
      rw (room_bottom g i h l) (pages_within n (capacity g i) (capacity_least g fit i) c)

  upper_pages : (i : ℕ) (es : Level) (below : List Slot) → 1 ≤ i → suc i < g.levels → length es ≤ total g i → pages_for (length below) ≤ room g (suc i) →
      pages_for (length (paged 0 0 (over es below))) ≤ room g i
  upper_pages i es below h l e b =
      rw (room_above g i h l)
      (paged_pages (over es below) (total g i + room g (suc i)) (omega (arith, b, pages_some (length below))) (omega (arith, e, b, over_length es below)))

  -- The levels of t, from level i on, in their rooms.
  laid_rooms : (t : Tree) (i : ℕ) → 1 ≤ i → i + length t ≡ g.levels → ((j : ℕ) → suc j < length t → length (level j t) ≤ total g (i + j)) →
      ((j : ℕ) → suc j ≡ length t → length (level j t) ≤ most g) → (j : ℕ) → j < length t → pages_for (length (get_or (laid t) j [])) ≤ room g (i + j)
  laid_rooms [] i h l u m j b = absurd (omega arith)
  laid_rooms (es ∷ []) i h l u m zero b =
      rw (laid_alone es, length-map es index, add-zero i) (bottom_pages i (length es) h (omega (arith, l)) (m 0 refl))
  laid_rooms (es ∷ []) i h l u m (suc j) b = absurd (omega arith)
  laid_rooms (es ∷ ds ∷ t) i h l u m j b =
      row j b (laid_rooms (ds ∷ t) (suc i) (omega arith) (omega (arith, l)) (λ k c. rw (suc-add i k, ← add-suc i k) (u (suc k) (omega arith)))
      (λ k c. m (suc k) (omega arith)))
    where
      row : (j : ℕ) → j < suc (suc (length t)) → ((k : ℕ) → k < suc (length t) → pages_for (length (get_or (laid (ds ∷ t)) k [])) ≤ room g (suc i + k)) →
          pages_for (length (get_or (laid (es ∷ ds ∷ t)) j [])) ≤ room g (i + j)
      row zero c below =
          rw (laid_above es ds t, add-zero i)
          (upper_pages i es (get_or (laid (ds ∷ t)) 0 []) h (omega (arith, l)) (rw (add-zero i) at (u 0 (omega arith)))
          (rw (add-zero (suc i)) at (below 0 (omega arith))))
      row (suc k) c below = rw (laid_above es ds t, add-suc i k, ← suc-add i k) (below k (omega arith))

  -- Level 1 is the first of the lower levels.
  one_more : (j : ℕ) → 1 + j ≡ suc j
  one_more j = omega arith

  -- The head's slots are its entries and a fence for each page of level 1; each lower level has its room.
  pub roomy_fits : (t : Tree) → Roomy g t → TreeFits t → Fits g (slots_of t)
  unfolding slots_of TreeFits SlotsFit total head_room
  roomy_fits [] r a = absurd (omega (arith, r.levels, fit.levels_least))
  roomy_fits (es ∷ []) r a = absurd (omega (arith, r.levels, fit.levels_least))
  roomy_fits (es ∷ ds ∷ t) r a = record {
    levels = ap suc (laid_length (ds ∷ t)) ∙ r.levels;
    head =
        rw (head_over es ds t, over_length es below)
        (omega (arith, r.upper 0 (omega (arith, fit.levels_least)), capacity_zero g, pages 0 (omega arith)));
    rooms = rooms;
    slots = slots;
  }
    where
      lower : List (List Slot)
      lower = laid (ds ∷ t)

      below : List Slot
      below = get_or lower 0 []

      pages : (j : ℕ) → j < length (ds ∷ t) → pages_for (length (get_or lower j [])) ≤ room g (1 + j)
      pages =
          laid_rooms (ds ∷ t) 1 (omega arith) (omega (arith, r.levels)) (λ j h. rw (one_more j) (r.upper (suc j) (omega (arith, r.levels, h))))
          (λ j h.
          let q : bottom g ≡ suc j = omega (arith, r.levels, h) in
          rw q at r.lowest)

      rooms : (i : ℕ) → 1 ≤ i → i < g.levels → pages_for (length (get_or (head_on es lower ∷ lower) i [])) ≤ room g i
      rooms zero h b = absurd (omega arith)
      rooms (suc i) h b = rw (one_more i) at (pages i (omega (arith, r.levels, b)))

      -- Every level has few pages, also one that does not exist.
      few : (j : ℕ) → pages_for (length (get_or lower j [])) ≤ 2 ^ 30
      few j = chosen (ltb j (length (ds ∷ t))) refl
        where
          chosen : (b : Bool) → ltb j (length (ds ∷ t)) ≡ b → pages_for (length (get_or lower j [])) ≤ 2 ^ 30
          chosen true e = omega (arith, pages j (ltb-true j (length (ds ∷ t)) e), room_small g fit (1 + j))
          chosen false e =
              let past : length lower ≤ j = omega (arith, laid_length (ds ∷ t), ltb-false j (length (ds ∷ t)) e) in
              rw (get_or-eq_default lower [] past) no_slots

      slots : (i : ℕ) → SlotsFit (get_or (head_on es lower ∷ lower) i [])
      slots zero = rw (head_over es ds t) (over_fits es below (few 0) a.0 (laid_fits (ds ∷ t) a.1 few 0))
      slots (suc i) = laid_fits (ds ∷ t) a.1 few i

  -- A head with fewer entries than its capacity has room for one more slot.
  pub head_takes_one_more : (t : Tree) → Fits g (slots_of t) → length (level 0 t) < capacity g 0 → suc (length (get_or (slots_of t) 0 [])) ≤ head_room g
  unfolding slots_of laid head_room
  head_takes_one_more [] f few = absurd (omega (arith, f.levels, fit.levels_least))
  head_takes_one_more (es ∷ []) f few = absurd (omega (arith, f.levels, fit.levels_least))
  head_takes_one_more (es ∷ ds ∷ t) f few =
      rw (head_over es ds t, over_length es (get_or (laid (ds ∷ t)) 0 []))
      (omega (arith, few, capacity_zero g, f.rooms 1 (omega arith) (omega (arith, fit.levels_least))))
