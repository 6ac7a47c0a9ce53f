-- The words of a trail: the values of ask's reply, then a line for each of the levels 0 to 3. Assumes nothing.
use Rattle.std.specs.Prelude.{ℕ, ◌+◌, ◌*◌, List, get_or}

abbrev pub trail_words : ℕ
trail_words = 22

abbrev pub trail_levels : ℕ
trail_levels = 4

-- Held and the deciding level.
abbrev pub held_in : List ℕ → ℕ
held_in trail = get_or trail 0 0

abbrev pub decided_in : List ℕ → ℕ
decided_in trail = get_or trail 1 0

-- The place of a fault, of which a refusal tells in the first words: its level, page and slot.
abbrev pub fault_level_in : List ℕ → ℕ
fault_level_in trail = get_or trail 0 0

abbrev pub fault_page_in : List ℕ → ℕ
fault_page_in trail = get_or trail 1 0

abbrev pub fault_slot_in : List ℕ → ℕ
fault_slot_in trail = get_or trail 2 0

-- The words of a line, and where the line of level i begins.
abbrev pub words_in_line : ℕ
words_in_line = 5

unfoldable pub line_start : ℕ → ℕ
line_start i = 2 + words_in_line * i

-- The line of level i: read, its page, the slots at most the pair, the entry of the pair, the page followed and one more.
abbrev pub line_word : List ℕ → ℕ → ℕ → ℕ
line_word trail i k = get_or trail (line_start i + k) 0

abbrev pub read_in : List ℕ → ℕ → ℕ
read_in trail i = line_word trail i 0

abbrev pub page_in : List ℕ → ℕ → ℕ
page_in trail i = line_word trail i 1

abbrev pub reach_in : List ℕ → ℕ → ℕ
reach_in trail i = line_word trail i 2

abbrev pub entry_in : List ℕ → ℕ → ℕ
entry_in trail i = line_word trail i 3

abbrev pub followed_in : List ℕ → ℕ → ℕ
followed_in trail i = line_word trail i 4

-- What stands for an entry. 0 stands for none.
abbrev pub normal_word : ℕ
normal_word = 1

abbrev pub filter_word : ℕ
filter_word = 2
