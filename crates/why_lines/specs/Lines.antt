-- The lines that tell why, from the number of the reply and its trail. Assumes nothing.
use Rattle.std.specs.Prelude.{ℕ, cond, List, ◌++◌, ltb, eqb}
use Rattle.slot.specs.declared.Pair.{Pair}
use Rattle.trail_words.specs.Places.{trail_levels, held_in, decided_in, fault_level_in, fault_page_in, fault_slot_in, entry_in, filter_word}
use Rattle.printing.specs.Text.{bytes_of}
use Rattle.printing.specs.Line.{named}
use Rattle.why_levels.specs.Lines.{level_texts}
use Rattle.why_lines.specs.Fault.{fault_text}

-- The sentence: the pair, and what stands in a level.
unfoldable pub pair_text : List ℕ → Pair → List ℕ
pair_text may pair = named (bytes_of "Badge ") pair.badge ++ named may pair.floor.0

unfoldable pub stands_text : List ℕ → ℕ → List ℕ
stands_text what level = named what level ++ bytes_of ".\n"

unfoldable pub held_text : Pair → ℕ → List ℕ
held_text pair level = pair_text (bytes_of " may call floor ") pair ++ stands_text (bytes_of ": it was added, and the addition stands in level ") level

unfoldable pub removed_text : Pair → ℕ → List ℕ
removed_text pair level = pair_text (bytes_of " may not call floor ") pair ++ stands_text (bytes_of ": it was removed, and the removal stands in level ") level

unfoldable pub none_text : Pair → List ℕ
none_text pair = pair_text (bytes_of " may not call floor ") pair ++ bytes_of ": no entry for it was found.\n"

-- Where the pair is not held, a filter in the deciding level removed it, or no level decides.
unfoldable pub refusal_text : Pair → ℕ → ℕ → List ℕ
refusal_text pair decided entry = cond (eqb entry filter_word) (removed_text pair decided) (none_text pair)

-- The entry in a level. A level that has no line has none.
unfoldable pub entry_of : List ℕ → ℕ → ℕ
entry_of trail level = cond (ltb level trail_levels) (entry_in trail level) 0

unfoldable pub sentence_text : List ℕ → Pair → List ℕ
sentence_text trail pair =
    cond (eqb (held_in trail) 1) (held_text pair (decided_in trail)) (refusal_text pair (decided_in trail) (entry_of trail (decided_in trail)))

unfoldable pub verdict_text : ℕ → ℕ → List ℕ
verdict_text held decided = named (bytes_of "held=") held ++ named (bytes_of " decided=") decided ++ bytes_of "\n"

unfoldable pub answer_text : List ℕ → Pair → List ℕ
answer_text trail pair = level_texts trail trail_levels ++ verdict_text (held_in trail) (decided_in trail) ++ sentence_text trail pair

abbrev pub range_text : List ℕ
range_text = bytes_of "reply=1\nThe chip cannot be read: its first three words name no geometry.\n"

abbrev pub length_text : List ℕ
length_text = bytes_of "reply=5\nThe chip cannot be read: its length is not the one that its geometry asks for.\n"

unfoldable pub reply_text : ℕ → List ℕ → Pair → List ℕ
reply_text number trail pair =
    cond (eqb number 0) (answer_text trail pair) (
    cond (eqb number 1) range_text (
    cond (eqb number 5) length_text (
    fault_text number (fault_level_in trail) (fault_page_in trail) (fault_slot_in trail))))

-- The lines of any reply fit into 512 bytes.
abbrev pub text_room : ℕ
text_room = 512
