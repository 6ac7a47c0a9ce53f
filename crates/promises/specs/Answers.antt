-- Put and drop on a plain set: what it answers to requests, one after another. It knows of no level, page or fence. Assumes nothing.
use Rattle.std.specs.Prelude.{ℕ, true, false, List, [], ◌∷◌, length, ltb}
use Rattle.slot.specs.declared.Pair.{Pair}
use Rattle.rules.specs.Listing.{insert}
use Rattle.rules.specs.Requests.{Request, putting, dropping}
use Rattle.promises.specs.Plain.{has, without}

-- A request's reply number, and the set after it.
pub record Answered : Type 0 where
  pub reply : ℕ
  pub after : List Pair

-- Put is refused of a pair that is in the set, and where the set has all the pairs that it may have; drop of a pair that is not in it.
unfoldable pub answer : ℕ → Request → List Pair → Answered
answer most (putting p) set =
    elim (has p set) [
      | true ↦ record { reply = 2; after = set }
      | false ↦ elim (ltb (length set) most) [ true ↦ record { reply = 0; after = insert p set } | false ↦ record { reply = 4; after = set } ]
    ]
answer most (dropping p) set =
    elim (has p set) [ true ↦ record { reply = 0; after = without p set } | false ↦ record { reply = 3; after = set } ]

-- Requests one after another: the replies, and the set after the last.
unfoldable pub answers : ℕ → List Pair → List Request → List Answered
answers most set [] = []
answers most set (r ∷ rs) = let a = answer most r set in a ∷ answers most a.after rs

unfoldable pub set_after : List Pair → List Answered → List Pair
set_after set [] = set
set_after set (a ∷ rest) = set_after a.after rest
