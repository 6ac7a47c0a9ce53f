-- The pages that a cascade writes: a merge into level i writes at most Pg(1) + … + Pg(i). Assumes nothing.
use Prim.Native.Nat.{ℕ, zero, suc, ◌+◌, ◌≤◌, ◌<◌}
use native.Mathlib.Omega.{arith}
use Rattle.std.specs.Prelude.{List, [], length, get_or}
use Rattle.std.proofs.Common.{length-append}
use Rattle.laws.specs.Lists.{span, length_span}
use Rattle.geometry.specs.declared.Geometry.{Geometry}
use Rattle.geometry.specs.Places.{room_before}
use Rattle.slot.specs.declared.Slot.{Slot}
use Rattle.rules.specs.Level.{pages_for, page_of}
use Rattle.rules.specs.Merging.{PageWrite, pages_written}
use Rattle.rules.specs.Good.{Fits}

-- The most that merges into levels 1 to i write, one into each.
unfoldable pub cascade_room : Geometry → ℕ → ℕ
cascade_room g zero = 0
cascade_room g (suc i) = cascade_room g i + room_before g (suc (suc i))

-- One merge, whose slots fit their rooms.
pub merge_pages : (g : Geometry) (ss : List (List Slot)) → Fits g ss → (i : ℕ) → i < g.levels → length (pages_written i ss) ≤ room_before g (suc i)
unfolding pages_written room_before
merge_pages g ss fits zero h = omega arith
merge_pages g ss fits (suc i) h =
    let new : ℕ → PageWrite = λ p. record { level = suc i; page = p; slots = page_of (get_or ss (suc i) []) p } in
    let pages = pages_for (length (get_or ss (suc i) [])) in
    omega (
      arith,
      length-append (span new 0 pages) (pages_written i ss),
      length_span new 0 pages,
      fits.rooms (suc i) (omega arith) h,
      merge_pages g ss fits i (omega arith),
    )
