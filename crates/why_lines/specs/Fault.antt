-- The lines of a fault: the number of the reply with the place, and a sentence. Assumes nothing.
use Rattle.std.specs.Prelude.{ℕ, Bool, cond, ◌&&◌, List, ◌++◌, eqb}
use Rattle.fault.specs.declared.Fault.{Fault}
use Rattle.fault.specs.declared.Part.{Part}
use Rattle.fault.specs.declared.Part.TheVariants.{Directory, Head, Page, Writing, Kinds}
use Rattle.fault.specs.Numbers.{number_of}
use Rattle.printing.specs.Text.{bytes_of}
use Rattle.printing.specs.Line.{named}

-- What is damaged: the directory, the head, the form of a page, the writing of a level.
abbrev pub directory_text : List ℕ
directory_text = bytes_of "its directory is wrong"

abbrev pub head_text : ℕ → List ℕ
head_text slot = named (bytes_of "the head is wrong at slot ") slot

unfoldable pub page_text : ℕ → ℕ → ℕ → List ℕ
page_text level page slot = named (bytes_of "page ") page ++ named (bytes_of " of level ") level ++ named (bytes_of " is wrong at slot ") slot

unfoldable pub writing_text : ℕ → ℕ → ℕ → List ℕ
writing_text level page slot =
    named (bytes_of "level ") level ++ named (bytes_of " is not as it is written, at slot ") slot ++ named (bytes_of " of page ") page

-- What stands across levels: live, which has no place, or the kind of an entry.
abbrev pub placeless : ℕ → ℕ → ℕ → Bool
placeless level page slot = eqb level 0 && eqb page 0 && eqb slot 0

abbrev pub live_text : List ℕ
live_text = bytes_of "the number of pairs is wrong"

unfoldable pub kind_text : ℕ → ℕ → ℕ → List ℕ
kind_text level page slot =
    named (bytes_of "an entry in level ") level ++ named (bytes_of ", page ") page ++ named (bytes_of ", slot ") slot ++ bytes_of " does not fit the levels below"

unfoldable pub across_text : ℕ → ℕ → ℕ → List ℕ
across_text level page slot = cond (placeless level page slot) live_text (kind_text level page slot)

-- What is damaged, by the number of the reply. A number that is none of 10 to 13 is told as 14.
abbrev pub part_told : ℕ → Part
part_told number = cond (eqb number 10) Directory (cond (eqb number 11) Head (cond (eqb number 12) Page (cond (eqb number 13) Writing Kinds)))

unfoldable pub damage_text : ℕ → ℕ → ℕ → ℕ → List ℕ
damage_text number level page slot =
    cond (eqb number 10) directory_text (
    cond (eqb number 11) (head_text slot) (
    cond (eqb number 12) (page_text level page slot) (
    cond (eqb number 13) (writing_text level page slot) (
    across_text level page slot))))

unfoldable pub fault_line : ℕ → ℕ → ℕ → ℕ → List ℕ
fault_line number level page slot =
    named (bytes_of "reply=") number ++ named (bytes_of " level=") level ++ named (bytes_of " page=") page ++ named (bytes_of " slot=") slot

unfoldable pub fault_text : ℕ → ℕ → ℕ → ℕ → List ℕ
fault_text number level page slot =
    fault_line number level page slot ++ bytes_of "\nThe store is damaged: " ++ damage_text number level page slot ++ bytes_of ".\n"

-- The lines of a fault whose part is told by itself.
unfoldable pub fault_told : ℕ → Fault → List ℕ
fault_told number f =
    fault_line number f.level f.page f.slot ++ bytes_of "\nThe store is damaged: " ++ damage_text (number_of f.part) f.level f.page f.slot ++ bytes_of ".\n"
