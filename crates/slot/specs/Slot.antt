-- A slot's three words: badge, floor, tag. Read from words and made into words, with the round trip. Assumes nothing.
use Rattle.std.specs.Prelude.{ℕ, ◌+◌, List, [], ◌∷◌, get_or}
use Rattle.slot.specs.declared.Slot.{Slot}
use Rattle.slot.specs.Pair.{pair}
use Rattle.slot.specs.Tag.{kind_of, page_of, tag_of}

-- The slot whose three words begin at a place.
unfoldable pub slot_at : List ℕ → ℕ → Slot
slot_at words i = record {
  pair = pair (get_or words i 0) (get_or words (i + 1) 0);
  kind = kind_of (get_or words (i + 2) 0);
  page = page_of (get_or words (i + 2) 0);
}

-- The three words of a slot.
unfoldable pub words_of : Slot → List ℕ
words_of s = s.pair.badge ∷ s.pair.floor.0 ∷ tag_of s.kind s.page ∷ []
