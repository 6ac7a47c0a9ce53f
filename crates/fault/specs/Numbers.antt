-- The numbers of faults, and a fault by its part and place. Assumes nothing.
use Rattle.std.specs.Prelude.{ℕ}
use Rattle.fault.specs.declared.Fault.{Fault}
use Rattle.fault.specs.declared.Part.{Part}
use Rattle.fault.specs.declared.Part.TheVariants.{Directory, Head, Page, Writing, Kinds}

-- The directory: live above M, page counts, the mode. The head: what ask tests of it. Page form: count, slot order, legal tags. Writing: all
-- else in a level's writing, its unused words and its capacity included; on a walk the first-slot rule. Kinds, alternation or live across
-- levels.
abbrev pub number_of : Part → ℕ
number_of Directory = 10
number_of Head = 11
number_of Page = 12
number_of Writing = 13
number_of Kinds = 14

-- A fault of a part in a slot of a page of a level, and one without a place.
abbrev pub fault_in : Part → ℕ → ℕ → ℕ → Fault
fault_in part level page slot = record { part = part; level = level; page = page; slot = slot }

abbrev pub no_place : Part → Fault
no_place part = fault_in part 0 0 0
