-- What the answers of src/lib.rt tell of the lines from a place of the input on. Assumes nothing.
use Rattle.std.specs.Prelude.{ℕ, ◌+◌, ◌≤◌, ◌<◌, ◌≡◌, List, length, Option, Some, None, Result, Ok, Err, ⊤}
use Rattle.std.proofs.Math.Option.{some, none}
use Rattle.geometry.specs.declared.Geometry.{Geometry}
use Rattle.geometry.specs.Geometry.{InRange}
use Rattle.geometry.specs.Places.{store_words}
use Rattle.lines.specs.Lines.{lines_of, first_among}
use Rattle.lines.specs.Judged.{Judged, faulty, good}
use Rattle.lines.specs.Told.{ahead, Onward}
use Rattle.reading.specs.declared.Request.{Request}
use Rattle.reading.specs.declared.Operation.{Operation}
use Rattle.reading.specs.declared.Group.{Group}
use Rattle.reading.specs.declared.Heading.{Heading}
use Rattle.reading.specs.Sheet.{sheet_for, joined, operation, requests_from, judged_lines, judged, most_bytes, most_words}

-- An operation that the bytes of a line or a line name, or that they name none. No name is shorter than `op=put`.
abbrev pub OperationAs : List ℕ → Option Operation → Type 0
OperationAs l (Some op) = (operation (some l) ≡ some op) × (6 ≤ length l)
OperationAs l None = operation (some l) ≡ none

abbrev pub NamedAs : List ℕ → ℕ → Option (Operation × ℕ) → Type 0
NamedAs w at (Some (op, next)) = (operation (first_among (ahead w at)) ≡ some op) × Onward w at 6 next
NamedAs w at None = operation (first_among (ahead w at)) ≡ none

-- A group was read as a request, which stands before those of the groups behind it; or its first faulty line is told.
pub record Requested (w : List ℕ) (at : ℕ) (r : Request) (next : ℕ) : Type 0 where
  pub joins : (n : ℕ) → requests_from n (ahead w at) ≡ joined r (requests_from (n + 3) (ahead w next))
  pub passes : at + 20 < next
  pub within : next ≤ length w

abbrev pub GroupAs : List ℕ → ℕ → Result Group ℕ → Type 0
GroupAs w at (Ok g) = Requested w at g.request g.next
GroupAs w at (Err k) = (k ≤ 2) × ((n : ℕ) → requests_from n (ahead w at) ≡ faulty (n + k))

-- The requests from a place on are all without fault, or the first faulty line is told.
pub record Faultless (judgement : Judged (List Request)) : Type 0 where
  pub requests : List Request
  pub are : judgement ≡ good requests

abbrev pub RequestsAs : List ℕ → ℕ → Result ⊤ ℕ → Type 0
RequestsAs w at (Err n) = requests_from 4 (ahead w at) ≡ faulty n
RequestsAs w at (Ok _) = Faultless (requests_from 4 (ahead w at))

-- The first three lines' geometry, in its ranges and with a store that is not too long, or the first faulty line.
pub record Headed (w : List ℕ) (g : Geometry) (at : ℕ) : Type 0 where
  pub sheet : judged_lines (lines_of w) ≡ sheet_for g (requests_from 4 (ahead w at))
  pub in_range_lem : InRange g
  pub short : store_words g ≤ most_words
  pub within : at ≤ length w

abbrev pub GeometryAs : List ℕ → Result Heading ℕ → Type 0
GeometryAs w (Ok h) = Headed w h.geometry h.next
GeometryAs w (Err n) = judged_lines (lines_of w) ≡ faulty n

-- A sheet without fault, with its requests from a place on; or its first faulty line.
pub record Ready (w : List ℕ) (g : Geometry) (at : ℕ) : Type 0 where
  pub requests : List Request
  pub sheet : judged w ≡ good (record { geometry = g; requests = requests })
  pub follow : requests_from 4 (ahead w at) ≡ good requests
  pub in_range_lem : InRange g
  pub short : store_words g ≤ most_words
  pub within : at ≤ length w
  pub few : length w ≤ most_bytes

abbrev pub Judges : List ℕ → Result Heading ℕ → Type 0
Judges w (Ok h) = Ready w h.geometry h.next
Judges w (Err n) = judged w ≡ faulty n
