-- The paper's section "The sheet program": what a sheet prints, made by the calls that it asks for. Assumes nothing.
use Rattle.std.specs.Prelude.{ℕ, ◌+◌, true, false, List, [], ◌∷◌, ◌++◌, get_or, leb}
use Rattle.geometry.specs.declared.Geometry.{Geometry}
use Rattle.geometry.specs.Places.{live_word}
use Rattle.rules.specs.Merging.{entries}
use Rattle.rules.specs.Sound.{tree_of}
use Rattle.printing.specs.Line.{line}
use Rattle.lines.specs.Judged.{Judged, faulty, good}
use Rattle.reading.specs.declared.Request.{Request}
use Rattle.reading.specs.Sheet.{Sheet, judged}
use Rattle.sheet_lines.specs.Lines.{fault_name, name_of, last_lines}
use Rattle.sheet_calls.specs.Calls.{made, first_store, first_work}

-- The last lines tell of the store as it stands after all calls.
unfoldable pub ending : Geometry → List ℕ → ℕ → List ℕ
ending g w pages = last_lines g.levels (get_or w live_word 0) (entries (tree_of g w)) pages

-- The lines of requests, made one after another on a store, where pages were written before them.
unfoldable pub text_from : Geometry → List ℕ → List ℕ → ℕ → List Request → List ℕ
text_from g w work pages [] = ending g w pages
text_from g w work pages (r ∷ rs) =
    let m = made r w work in
    line (name_of r.operation) m.told ++ text_from g m.store m.work (pages + m.pages) rs

-- The first faulty line prints only its number.
abbrev pub judged_text : Judged Sheet → List ℕ
judged_text (faulty n) = line fault_name n
judged_text (good s) = text_from s.geometry (first_store s.geometry) (first_work s.geometry) 0 s.requests

unfoldable pub sheet_of : List ℕ → List ℕ
sheet_of bytes = judged_text (judged bytes)

-- The text of any sheet fits into 16,640 bytes. A shorter buffer gets none of it.
abbrev pub text_room : ℕ
text_room = 16640

unfoldable pub printed_in : ℕ → List ℕ → List ℕ
printed_in room bytes = elim (leb text_room room) [ true ↦ sheet_of bytes | false ↦ [] ]
