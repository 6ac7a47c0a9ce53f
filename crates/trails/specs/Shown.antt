-- What a line of a trail told, its own slots show: where it decides, the slot that it reached is an index entry of the pair; where it tells a page to
-- follow, or nothing, none of its slots is. Assumes nothing.
use Rattle.std.specs.Prelude.{ℕ, zero, suc, ◌≡◌}
use Rattle.std.proofs.Math.Bool.{true}
use mathlib.Core.List.{List}
use Rattle.geometry.specs.declared.Geometry.{Geometry}
use Rattle.slot.specs.declared.Pair.{Pair}
use Rattle.slot.specs.declared.Slot.{Slot}
use Rattle.rules.specs.Sound.{head_slots, page_slots}
use Rattle.walk.specs.Stepping.{Step}
use Rattle.walk.specs.Stepping.{Decided, Follow, Nothing, Broken}
use Rattle.walk.specs.Trail.{Line}
use Rattle.trails.specs.Entry.{no_entry_of, ReachesEntry}

-- The slots that a line of level i is about: the head's, or those of its page.
unfoldable pub run_of : Geometry → List ℕ → ℕ → ℕ → List Slot
run_of g w zero p = head_slots g w
run_of g w (suc i) p = page_slots g w (suc i) p

-- What slots show of a pair, by what they told.
abbrev pub Shows : Pair → List Slot → ℕ → Step → Type 0
Shows asked run reach (Decided held) = ReachesEntry asked run reach held
Shows asked run reach (Follow page) = no_entry_of asked run ≡ true
Shows asked run reach Nothing = no_entry_of asked run ≡ true
Shows asked run reach (Broken f) = Unit {0}

abbrev pub LineShows : Geometry → List ℕ → Pair → ℕ → Line → Type 0
LineShows g w asked i line = Shows asked (run_of g w i line.page) line.reach line.step
