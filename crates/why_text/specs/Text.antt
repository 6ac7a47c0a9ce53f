-- What the tool that tells why prints, and which words it stores. Assumes nothing.
use Rattle.std.specs.Prelude.{ℕ, ◌≤◌, ◌≡◌, cond, ◌&&◌, List, [], length, leb, Ok, Err}
use Rattle.std.proofs.lemmas.List.Edits.{sets}
use Rattle.slot.specs.declared.Pair.{Pair}
use Rattle.call_why.specs.Why.{why_of}
use Rattle.chip.specs.Bytes.{words_of}
use Rattle.printing.specs.Printed.{Printed}
use Rattle.why_input.specs.Input.{Judged, wrong_text, judged_input}
use Rattle.why_lines.specs.Lines.{text_room, reply_text}
use Rattle.why_text.specs.declared.Stream.{Stream}
use Rattle.why_text.specs.declared.Stream.TheVariants.{Output, Error}
use Rattle.why_text.specs.declared.Told.{Told}

-- The text of a pair and a store: the lines of the reply.
unfoldable pub why_text : List ℕ → Pair → List ℕ
why_text w pair = reply_text (why_of w pair).number (why_of w pair).values pair

-- The text, the stream that it is for, and the words stored. What is wrong with the input is told on the error stream.
pub record Outcome : Type 0 where
  pub text : List ℕ
  pub stream : Stream
  pub stored : List ℕ

abbrev pub outcome : List ℕ → Judged → Outcome
outcome chip (Err wrong) = record { text = wrong_text wrong; stream = Error; stored = [] }
outcome chip (Ok pair) = record { text = why_text (words_of chip) pair; stream = Output; stored = words_of chip }

unfoldable pub told_of : List ℕ → List ℕ → List ℕ → Outcome
told_of badge floor chip = outcome chip (judged_input badge floor chip)

-- Any chip fits into 123,088 words. Nothing is put where the buffer or the lent words are shorter than they must be.
abbrev pub word_room : ℕ
word_room = 123088

abbrev pub nothing_told : Outcome
nothing_told = record { text = []; stream = Output; stored = [] }

unfoldable pub told_in : ℕ → ℕ → List ℕ → List ℕ → List ℕ → Outcome
told_in room words badge floor chip = cond (leb text_room room && leb word_room words) (told_of badge floor chip) nothing_told

-- What the code leaves: the text at the start of the buffer, the words stored at the start of the lent words, and nothing else changed.
pub record Tells (o : Outcome) (words out words' out' : List ℕ) (r : Told) : Type 0 where
  pub prints : Printed out 0 o.text out' r.length
  pub fits : r.length ≤ length out
  pub stream : r.stream ≡ o.stream
  pub stores : words' ≡ sets words 0 o.stored
