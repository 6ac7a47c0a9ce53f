-- What a walk comes to: held or not with the deciding level, or a fault. Assumes nothing.
use Rattle.std.specs.Prelude.{ℕ, Bool, Result, Ok}
use Rattle.fault.specs.declared.Fault.{Fault}
use Rattle.walk.specs.declared.Found.{Found}

abbrev pub Walked : Type 0
Walked = Result Found Fault

abbrev pub found : Bool → ℕ → Walked
found held level = Ok (record { held = held; level = level })
