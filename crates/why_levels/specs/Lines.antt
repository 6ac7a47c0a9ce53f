-- The lines of the levels that a walk read, from its trail. Assumes nothing.
use Rattle.std.specs.Prelude.{ℕ, zero, suc, cond, List, [], ◌++◌, eqb}
use Rattle.trail_words.specs.Places.{read_in, page_in, reach_in, entry_in, followed_in, normal_word, filter_word}
use Rattle.printing.specs.Text.{bytes_of}
use Rattle.printing.specs.Line.{named}

-- A name and the number that n is one more than. 0 stands for none.
abbrev pub if_any : List ℕ → ℕ → List ℕ
if_any name zero = []
if_any name (suc n) = named name n

unfoldable pub entry_text : ℕ → List ℕ
entry_text entry = cond (eqb entry normal_word) (bytes_of " entry=normal") (cond (eqb entry filter_word) (bytes_of " entry=filter") [])

unfoldable pub place_text : ℕ → ℕ → ℕ → List ℕ
place_text level page reach = named (bytes_of "level=") level ++ named (bytes_of " page=") page ++ if_any (bytes_of " slot=") reach

unfoldable pub step_text : ℕ → ℕ → List ℕ
step_text entry followed = entry_text entry ++ if_any (bytes_of " follows=") followed ++ bytes_of "\n"

-- A level that was not read has none.
unfoldable pub level_text : List ℕ → ℕ → List ℕ
level_text trail i = cond (eqb (read_in trail i) 0) [] (place_text i (page_in trail i) (reach_in trail i) ++ step_text (entry_in trail i) (followed_in trail i))

-- The lines of the first n levels.
unfoldable pub level_texts : List ℕ → ℕ → List ℕ
level_texts trail zero = []
level_texts trail (suc n) = level_texts trail n ++ level_text trail n
