-- What a test of a store comes to: nothing where it passes, else a fault. Assumes nothing.
use Rattle.std.specs.Prelude.{Result, ⊤}
use Rattle.fault.specs.declared.Fault.{Fault}

abbrev pub Judged : Type 0
Judged = Result ⊤ Fault
