-- A store lent with its geometry and its plan: the geometry is in range, the plan is its plan, and the length is exact. What the plan's
-- numbers are then, and that every place lies inside the store. Assumes nothing.
use Prim.Native.Nat.{ℕ, zero, suc, ◌+◌, ◌*◌, ◌≤◌, ◌<◌}
use Rattle.std.proofs.Common.{arith, ◌∙◌}
use Rattle.std.specs.Prelude.{◌≡◌, List, length, get_or}
use Rattle.std.proofs.Math.Path.{ap}
use Rattle.geometry.specs.declared.Geometry.{Geometry}
use Rattle.geometry.specs.declared.Plan.{Plan}
use Rattle.geometry.specs.declared.LevelPlace.{LevelPlace}
use Rattle.geometry.specs.Geometry.{InRange, bottom, capacity, most, room, capacities, rooms}
use Rattle.geometry.specs.Places.{directory_words, head_start, words_in_slot, words_in_page, pages_word, head_room, level_start, page_place, plan_of, store_words}
use Rattle.geometry.specs.Bounds.{PlanSmall, within_is}
use Rattle.geometry.specs.Apart.{plan_small, level_after, level_inside}
use Rattle.geometry.proofs.Apart.{page_inside}
use Rattle.geometry.specs.Directory.{level_place, pages_of_lem, place_start}
use Rattle.geometry.proofs.Directory.{place_none}
use Rattle.geometry.specs.Lent.{Lent}

module _ (g : Geometry) (plan : Plan) (w : List ℕ) (l : Lent g plan w) where
  pub rooms_at : (i : ℕ) → i ≤ 3 → get_or plan.rooms i 0 ≡ room g i
  unfolding plan_of rooms
  rooms_at zero h = rw l.planned
  rooms_at (suc zero) h = rw l.planned
  rooms_at (suc (suc zero)) h = rw l.planned
  rooms_at (suc (suc (suc zero))) h = rw l.planned
  rooms_at (suc (suc (suc (suc i)))) h = absurd (omega arith)

  pub starts_at : (i : ℕ) → 1 ≤ i → i ≤ 3 → get_or plan.starts i 0 ≡ level_start g i
  unfolding plan_of
  starts_at zero k h = absurd (omega arith)
  starts_at (suc zero) k h = rw l.planned
  starts_at (suc (suc zero)) k h = rw l.planned
  starts_at (suc (suc (suc zero))) k h = rw l.planned
  starts_at (suc (suc (suc (suc i)))) k h = absurd (omega arith)

  pub capacities_at : (i : ℕ) → i < g.levels → get_or plan.capacities i 0 ≡ capacity g i
  unfolding plan_of capacities
  capacities_at zero h = rw l.planned
  capacities_at (suc zero) h = rw l.planned
  capacities_at (suc (suc zero)) h = rw l.planned (within_is g 2 (capacity g 2) h)
  capacities_at (suc (suc (suc zero))) h = rw l.planned (within_is g 3 (capacity g 3) h)
  capacities_at (suc (suc (suc (suc i)))) h = absurd (omega (arith, l.in_range_lem.levels_most))

  pub most_at : get_or plan.capacities (bottom g) 0 ≡ most g
  unfolding most
  most_at = capacities_at (bottom g) (omega (arith, l.in_range_lem.levels_least))

  pub head_room_at : plan.head_room ≡ head_room g
  unfolding plan_of
  head_room_at = rw l.planned

  -- The head's slots and every page of a level's room lie inside the store.
  pub head_lent : head_start + words_in_slot * head_room g ≤ length w
  unfolding store_words level_start
  head_lent = omega (arith, l.exact)

  pub page_lent : (i p : ℕ) → i ≤ 3 → p < room g i → page_place g i p + 64 ≤ length w
  unfolding store_words page_place
  page_lent i p h b = omega (arith, l.exact, page_inside g i p b, level_inside g i (omega arith))

  pub page_at_lem : (i p : ℕ) → i < g.levels → p < room g i → {place : LevelPlace} → place ≡ level_place g w i →
      (place.start + words_in_page * p ≡ page_place g i p) × (place.start + words_in_page * p + words_in_page ≤ length w)
  unfolding page_place
  page_at_lem i p h b e =
      let s : _ ≡ level_start g i = ap (λ (q : LevelPlace). q.start) e ∙ place_start g w i in
      (omega (arith, s), omega (arith, s, page_lent i p (omega (arith, l.in_range_lem.levels_most)) b))

  pub head_least : 1 ≤ head_room g
  unfolding head_room
  head_least = omega (arith, l.in_range_lem.head_least)

  -- A level's room lies inside the store.
  pub room_inside : (i : ℕ) → i < g.levels → {place : LevelPlace} → place ≡ level_place g w i → place.start + words_in_page * place.room ≤ length w
  unfolding store_words level_place
  room_inside i h e =
      let three : i < 4 = omega (arith, l.in_range_lem.levels_most) in
      rw e (omega (arith, level_after g i, level_inside g i three, l.exact))

  -- A store is small.
  pub store_small : length w ≤ 600000
  unfolding plan_of
  store_small = omega (arith, l.exact, ap (λ (p : Plan). p.store_words) l.planned, l.small.store_below)

  -- Where a level stands, as the code reads it from the plan and the directory.
  pub place_lent : (i : ℕ) → 1 ≤ i → i < g.levels → {start room : ℕ} → start ≡ get_or plan.starts i 0 → room ≡ get_or plan.rooms i 0 →
      record { start = start; room = room; pages = get_or w (pages_word i) 0 } ≡ level_place g w i
  unfolding level_place
  place_lent i k h s r =
      let three : i ≤ 3 = omega (arith, l.in_range_lem.levels_most) in
      rw (s, r, starts_at i k three, rooms_at i three, pages_of_lem g w i h)

  pub place_past : (i : ℕ) → g.levels ≤ i → i ≤ 4 → record { start = plan.store_words; room = 0; pages = 0 } ≡ level_place g w i
  unfolding plan_of
  place_past i h b = rw l.planned (place_none g w i h b)
