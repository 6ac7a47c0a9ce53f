-- Any calls, one after another, where a set stands: they answer as the plain set does and report the pages that the rules write, and the set after
-- them stands. Assumes nothing.
use Rattle.std.specs.Prelude.{ℕ, ◌≡◌, refl, List, [], ◌∷◌, map, length}
use Rattle.std.proofs.Common.{ap₂}
use Rattle.geometry.specs.declared.Geometry.{Geometry}
use Rattle.slot.specs.declared.Pair.{Pair}
use Rattle.rules.specs.Merging.{State}
use Rattle.conditions.specs.Calls.{Call, CallsFit, make, history, words_after}
use Rattle.conditions.specs.Lengths.{geometry_then, geometry_after}
use Rattle.conditions.specs.Plain.{Answer, set_then, answers, set_after}
use Rattle.conditions.specs.Seen.{seen}
use Rattle.conditions.specs.Ruled.{state_then, state_after, pages_written}
use Rattle.conditions.specs.Reports.{pages_reported}
use Rattle.conditions.specs.Stands.{Stands}
use Rattle.conditions.proofs.Called.{call_agrees}
use Rattle.conditions.specs.Sequences.{AllAgree}

pub calls_agree : (cs : List Call) (g : Geometry) (s : State) (set : List Pair) (words : List ℕ) → Stands g s set words → CallsFit (length words) cs →
    AllAgree g s set words cs
unfolding CallsFit history words_after geometry_after answers set_after state_after pages_written seen pages_reported
calls_agree [] g s set words stands f = record { answered = refl; pages = refl; after = stands }
calls_agree (c ∷ cs) g s set words stands f =
    let here = call_agrees g s set words c stands f.0.0 f.0.1 in
    let later =
    calls_agree cs (geometry_then g c) (state_then g c s) (set_then g c set) (make c words).words here.after (rw here.as_long f.1) in
    record {
      answered = ap₂ (λ (a : Answer) (rest : List Answer). a ∷ rest) here.answers later.answered;
      pages = ap₂ (λ (n : ℕ) (ns : List ℕ). n ∷ ns) here.pages later.pages;
      after = later.after;
    }
