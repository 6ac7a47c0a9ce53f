-- What the head or a page tells of a pair, with the fault that a test found in it, and so what the code saw there. Assumes nothing.
use Rattle.std.specs.Prelude.{ℕ, ◌≡◌, Bool, Result, Ok, Err}
use Rattle.fault.specs.declared.Fault.{Fault}
use Rattle.fault.specs.declared.Part.{Part}
use Rattle.fault.specs.declared.Part.TheVariants.{Writing}
use Rattle.fault.specs.Numbers.{fault_in}
use Rattle.slot.specs.declared.Pid.{Pid}
use Rattle.walk.specs.declared.Seen.{Seen}
use Rattle.walk.specs.declared.Seen.TheVariants.{Decided as Decided-seen, Follow as Follow-seen, Nothing as Nothing-seen}
use Rattle.walk.specs.declared.Flaw.{Flaw}
use Rattle.walk.specs.declared.Flaw.TheVariants.{Unformed, Unfenced}

-- Its own entry, the page to follow, nothing, or a fault.
pub data Step : Type 0 where
  Decided : Bool → Step
  Follow : Pid → Step
  Nothing : Step
  Broken : Fault → Step

-- The fault of a flaw in page p of level i, whose form is told as a part; and what was seen there.
abbrev pub flaw_in : Part → ℕ → ℕ → Flaw → Fault
flaw_in part i p (Unformed slot) = fault_in part i p slot.0
flaw_in part i p Unfenced = fault_in Writing i p 0

abbrev pub seen_in : Part → ℕ → ℕ → Result Seen Flaw → Step
seen_in part i p (Ok (Decided-seen held)) = Decided held
seen_in part i p (Ok (Follow-seen page)) = Follow page
seen_in part i p (Ok Nothing-seen) = Nothing
seen_in part i p (Err flaw) = Broken (flaw_in part i p flaw)

-- What is seen wherever it stands.
abbrev pub Shows : Result Seen Flaw → Step → Type 0
Shows seen step = (part : Part) (i p : ℕ) → seen_in part i p seen ≡ step
