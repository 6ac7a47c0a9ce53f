-- The paper's section "The sheet program": the lines that a sheet prints. Assumes nothing.
use Rattle.std.specs.Prelude.{ℕ, zero, suc, List, [], ◌∷◌, ◌++◌, get_or, take}
use Rattle.laws.specs.Lists.{concat}
use Rattle.printing.specs.Line.{line}
use Rattle.reading.specs.declared.Operation.{Operation}
use Rattle.reading.specs.declared.Operation.TheVariants.{Put, Drop, Ask}

-- line=, put=, drop=, ask=
abbrev pub fault_name : List ℕ
fault_name = 108 ∷ 105 ∷ 110 ∷ 101 ∷ 61 ∷ []

abbrev pub put_name : List ℕ
put_name = 112 ∷ 117 ∷ 116 ∷ 61 ∷ []

abbrev pub drop_name : List ℕ
drop_name = 100 ∷ 114 ∷ 111 ∷ 112 ∷ 61 ∷ []

abbrev pub ask_name : List ℕ
ask_name = 97 ∷ 115 ∷ 107 ∷ 61 ∷ []

-- live=, head=, level1=, level2=, level3=, pages=
abbrev pub live_name : List ℕ
live_name = 108 ∷ 105 ∷ 118 ∷ 101 ∷ 61 ∷ []

abbrev pub head_name : List ℕ
head_name = 104 ∷ 101 ∷ 97 ∷ 100 ∷ 61 ∷ []

abbrev pub first_name : List ℕ
first_name = 108 ∷ 101 ∷ 118 ∷ 101 ∷ 108 ∷ 49 ∷ 61 ∷ []

abbrev pub second_name : List ℕ
second_name = 108 ∷ 101 ∷ 118 ∷ 101 ∷ 108 ∷ 50 ∷ 61 ∷ []

abbrev pub third_name : List ℕ
third_name = 108 ∷ 101 ∷ 118 ∷ 101 ∷ 108 ∷ 51 ∷ 61 ∷ []

abbrev pub pages_name : List ℕ
pages_name = 112 ∷ 97 ∷ 103 ∷ 101 ∷ 115 ∷ 61 ∷ []

-- The name of a call's line, and of a level's.
abbrev pub name_of : Operation → List ℕ
name_of Put = put_name
name_of Drop = drop_name
name_of Ask = ask_name

abbrev pub level_name : ℕ → List ℕ
level_name zero = head_name
level_name (suc zero) = first_name
level_name (suc (suc zero)) = second_name
level_name (suc (suc (suc n))) = third_name

-- The last lines: live pairs, index entries in the head and in each level that exists, and the sum of pages written.
unfoldable pub all_levels : List ℕ → List (List ℕ)
all_levels counts =
    line head_name (get_or counts 0 0) ∷ line first_name (get_or counts 1 0) ∷ line second_name (get_or counts 2 0) ∷ line third_name (get_or counts 3 0) ∷ []

unfoldable pub level_lines : ℕ → List ℕ → List ℕ
level_lines levels counts = concat (take levels (all_levels counts))

unfoldable pub last_lines : ℕ → ℕ → List ℕ → ℕ → List ℕ
last_lines levels live counts pages = line live_name live ++ (level_lines levels counts ++ line pages_name pages)
