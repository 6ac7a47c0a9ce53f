-- The writing of a whole store: directory, head, and each level's pages in order, word by word. Assumes nothing.
use Rattle.std.specs.Prelude.{ℕ, ◌-◌, ◌*◌, true, false, List, [], ◌∷◌, ◌++◌, map, length, get_or, replicate, ltb}
use Rattle.laws.specs.Lists.{span, concat}
use Rattle.geometry.specs.declared.Geometry.{Geometry}
use Rattle.geometry.specs.Geometry.{bottom, room}
use Rattle.geometry.specs.Places.{erased, head_room, open_mode, words_in_page, words_in_slot, slots_in_page}
use Rattle.slot.specs.declared.Slot.{Slot}
use Rattle.slot.specs.Slot.{words_of}
use Rattle.rules.specs.Level.{pages_for, page_of, slots_of}
use Rattle.rules.specs.Merging.{State, formatted}

-- Slots in room for n of them; unused slots hold all ones.
unfoldable pub run_words : List Slot → ℕ → List ℕ
run_words slots n = concat (map words_of slots) ++ replicate (words_in_slot * (n - length slots)) erased

-- A page is 64 words: a slot count, then 21 slots of three words.
unfoldable pub page_words : List Slot → List ℕ
page_words slots = length slots ∷ run_words slots slots_in_page

-- A level's pages in its room; unused pages hold all ones.
unfoldable pub level_words : List Slot → ℕ → List ℕ
level_words slots n =
    concat (span (λ p. elim (ltb p (pages_for (length slots))) [ true ↦ page_words (page_of slots p) | false ↦ replicate words_in_page erased ]) 0 n)

-- The page count of level i, zero for a level that does not exist.
unfoldable pub page_count : Geometry → List (List Slot) → ℕ → ℕ
page_count g ss i = elim (ltb i g.levels) [ true ↦ pages_for (length (get_or ss i [])) | false ↦ 0 ]

-- Words 0..2 H, k, l; word 3 live pairs; words 4..6 page counts of levels 1..3; word 7 the mode; word 8 the head's slot count.
unfoldable pub directory : Geometry → ℕ → List (List Slot) → List ℕ
directory g live ss =
    g.head ∷ g.ratio ∷ g.levels ∷ live ∷ page_count g ss 1 ∷ page_count g ss 2 ∷ page_count g ss 3 ∷ open_mode ∷ length (get_or ss 0 []) ∷ []

-- Then H + Pg(1) head slots, then each level's pages in order. The slots of the levels are given.
unfoldable pub laid_out : Geometry → ℕ → List (List Slot) → List ℕ
laid_out g live ss =
    directory g live ss ++ (run_words (get_or ss 0 []) (head_room g) ++ concat (span (λ i. level_words (get_or ss i []) (room g i)) 1 (bottom g)))

unfoldable pub writing : Geometry → State → List ℕ
writing g s = laid_out g s.live (slots_of s.tree)

-- Format makes the store of the empty set.
unfoldable pub empty_store : Geometry → List ℕ
empty_store g = writing g (formatted g)
