-- Of a walk over any words that finds an answer: its trail ends in the line that decides, where an index entry of the pair stands, normal exactly if
-- the pair is held; and no line that does not decide has one among its slots. Assumes nothing.
use Prim.Native.Nat.{ℕ}
use Rattle.std.specs.Prelude.{List, get_or}
use Rattle.geometry.specs.declared.Geometry.{Geometry}
use Rattle.slot.specs.declared.Pair.{Pair}
use Rattle.slot.specs.declared.Slot.{Slot}
use Rattle.walk.specs.Trail.{Line, head_line, trail}
use Rattle.trails.specs.Shown.{run_of}

-- Line i of a trail, the head's where it has fewer; and the slots that it is about.
unfoldable pub line_at : Geometry → List ℕ → Pair → ℕ → Line
line_at g w asked i = get_or (trail g w asked) i (head_line g w asked)

unfoldable pub run_at : Geometry → List ℕ → Pair → ℕ → List Slot
run_at g w asked i = run_of g w i (line_at g w asked i).page
