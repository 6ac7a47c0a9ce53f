-- Where no level decides, the pair is not held, and no slot of any line is an index entry of it. Assumes nothing.
use Prim.Native.Nat.{ℕ, ◌≤◌, ◌<◌}
use native.Mathlib.Omega.{arith}
use Rattle.std.specs.Prelude.{◌≡◌, Bool, true, List, length}
use Rattle.std.proofs.Math.Bool.{false}
use Rattle.geometry.specs.declared.Geometry.{Geometry}
use Rattle.geometry.specs.Geometry.{bottom}
use Rattle.slot.specs.declared.Pair.{Pair}
use Rattle.walk.specs.Walked.{found}
use Rattle.walk.specs.Step.{head_step}
use Rattle.walk.specs.Walk.{walked}
use Rattle.walk.specs.Trail.{trail, trail_few}
use Rattle.trails.specs.Entry.{no_entry_of}
use Rattle.trails.specs.Decides.{run_at}
use Rattle.trails.proofs.Decides.{none_held, found_on, no_entry_above}

module _ (g : Geometry) (w : List ℕ) (asked : Pair) (held : Bool) (level : ℕ) (finds : walked g w asked ≡ found held level) where
  pub none_decides : 1 ≤ g.levels → g.levels ≤ level →
      (held ≡ false) × ((i : ℕ) → i < length (trail g w asked) → no_entry_of asked (run_at g w asked i) ≡ true)
  none_decides some h =
      let on = found_on g w asked held level finds in (
        none_held g w asked held level (bottom g) 0 (head_step g w asked) (omega arith) h on,
        λ i b. no_entry_above g w asked held level finds i b (omega (arith, b, trail_few g w asked)),
      )
