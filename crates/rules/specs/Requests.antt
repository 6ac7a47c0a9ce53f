-- Requests one after another: what each comes to by the rules, how many are accepted and what they write in all. Assumes nothing.
use Rattle.std.specs.Prelude.{List, [], ◌∷◌, map, eqb}
use Rattle.laws.specs.Lists.{concat, passing}
use Rattle.geometry.specs.declared.Geometry.{Geometry}
use Rattle.slot.specs.declared.Pair.{Pair}
use Rattle.slot.specs.Pair.{Words}
use Rattle.rules.specs.Merging.{PageWrite, State, Outcome, put, remove}

-- A request is a put or a drop of a pair.
pub data Request : Type 0 where
  putting : Pair → Request
  dropping : Pair → Request

unfoldable pub step : Geometry → Request → State → Outcome
step g (putting p) s = put g p s
step g (dropping p) s = remove g p s

-- What each of some requests comes to, and the state after the last.
unfoldable pub run : Geometry → State → List Request → List Outcome
run g s [] = []
run g s (r ∷ rs) = let o = step g r s in o ∷ run g o.after rs

unfoldable pub final : State → List Outcome → State
final s [] = s
final s (o ∷ os) = final o.after os

-- The accepted ones, and the pages that all of them write.
unfoldable pub accepted : List Outcome → List Outcome
accepted os = passing (λ o. eqb o.reply 0) os

unfoldable pub writes : List Outcome → List PageWrite
writes os = concat (map (λ o. o.written) os)

-- The badge and floor of a request are words, as every call's are.
abbrev pub pair_in : Request → Pair
pair_in (putting p) = p
pair_in (dropping p) = p

unfoldable pub RequestsFit : List Request → Type 0
RequestsFit [] = Unit {0}
RequestsFit (r ∷ rs) = Words (pair_in r) × RequestsFit rs
