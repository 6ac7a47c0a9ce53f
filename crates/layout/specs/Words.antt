-- The slots of a level in words, given by the place of its first word. Assumes nothing.
use Rattle.std.specs.Prelude.{ℕ, ◌+◌, ◌*◌, min, Bool, true, false, List, get_or}
use Rattle.laws.specs.Lists.{span, concat}
use Rattle.geometry.specs.Places.{words_in_page, first_slot, slots_in_page}
use Rattle.slot.specs.declared.Pair.{Pair}
use Rattle.slot.specs.declared.Slot.{Slot}
use Rattle.slot.specs.Slot.{slot_at}
use Rattle.rules.specs.Tree.{Level}
use Rattle.rules.specs.Level.{fences, weave, paged}
use Rattle.rules.specs.Sound.{slots_from}

-- The pair in the first slot of page p of the level that starts at a place, as it stands.
unfoldable pub first_pair : List ℕ → ℕ → ℕ → Pair
first_pair w start p = (slot_at w (start + words_in_page * p + first_slot)).pair

-- The writing of entries over pages below, with internal fences or without.
unfoldable pub laid_over : Bool → (ℕ → Pair) → ℕ → Level → List Slot
laid_over inner first below es = elim inner [ true ↦ paged 0 0 (weave es (fences first below)) | false ↦ weave es (fences first below) ]

-- The slot count of page p of the level that starts at a place, the page's slots, and the level's.
unfoldable pub count_of : List ℕ → ℕ → ℕ → ℕ
count_of w start p = get_or w (start + words_in_page * p) 0

unfoldable pub page_run : List ℕ → ℕ → ℕ → List Slot
page_run w start p = slots_from w (start + words_in_page * p + first_slot) (min (count_of w start p) slots_in_page)

unfoldable pub level_run : List ℕ → ℕ → ℕ → List Slot
level_run w start pages = concat (span (page_run w start) 0 pages)
