-- Any calls, one after another, where a set stands: they answer as the plain set does and report the pages that the rules write, and the set after
-- them stands. Assumes nothing.
use Rattle.std.specs.Prelude.{ℕ, ◌≡◌, refl, List, [], ◌∷◌, map, length}
use Rattle.std.proofs.Common.{ap₂}
use Rattle.geometry.specs.declared.Geometry.{Geometry}
use Rattle.slot.specs.declared.Pair.{Pair}
use Rattle.rules.specs.Merging.{State}
use Rattle.conditions.specs.Calls.{Call, CallsFit, make, history, words_after}
use Rattle.conditions.specs.Lengths.{geometry_then, geometry_after}
use Rattle.conditions.specs.Plain.{Answer, set_then, answers, set_after}
use Rattle.conditions.specs.Seen.{seen}
use Rattle.conditions.specs.Ruled.{state_then, state_after, pages_written}
use Rattle.conditions.specs.Reports.{pages_reported}
use Rattle.conditions.specs.Stands.{Stands}

pub record AllAgree (g : Geometry) (s : State) (set : List Pair) (words : List ℕ) (cs : List Call) : Type 0 where
  pub answered : seen (history words cs) ≡ answers g set cs
  pub pages : pages_reported (history words cs) ≡ map length (pages_written g s cs)
  pub after : Stands (geometry_after g cs) (state_after g s cs) (set_after g set cs) (words_after words (history words cs))
