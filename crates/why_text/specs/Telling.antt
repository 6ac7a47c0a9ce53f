-- What the tool prints, by the way that the code takes. Assumes nothing.
use Rattle.std.specs.Prelude.{ℕ, ◌-◌, ◌/◌, ◌≤◌, ◌<◌, ◌≡◌, refl, List, length, take, leb, Ok, Err}
use Rattle.std.proofs.Common.{arith, ap}
use Rattle.std.proofs.lemmas.List.Edits.{sets}
use borrow.Author.Tests.{le-leb, lt-leb}
use Rattle.laws.specs.Sets.{part_stored}
use Rattle.laws.specs.Tests.{and_false_left, and_false_right}
use Rattle.slot.specs.declared.Pair.{Pair}
use Rattle.opening.specs.Reply.{Reply, replied}
use Rattle.call_ask.specs.Ask.{ask_of}
use Rattle.call_why.specs.Why.{why_words, why_replied_lem}
use Rattle.chip.specs.Bytes.{word_bytes, words_of, words_length}
use Rattle.printing.specs.Printed.{Printed, printed_none}
use Rattle.why_input.specs.declared.Wrong.{Wrong}
use Rattle.why_input.specs.Input.{Judged, wrong_text, judged_input}
use Rattle.why_text.specs.declared.Stream.TheVariants.{Output, Error}
use Rattle.why_text.specs.declared.Told.{Told}
use Rattle.why_lines.specs.Lines.{text_room, reply_text}
use Rattle.why_text.specs.Text.{why_text, Outcome, outcome, nothing_told, word_room, told_of, told_in, Tells}

-- The lines of the reply are the text.
pub reply_told : (w : List ℕ) (pair : Pair) (number : ℕ) (values trail : List ℕ) → replied number values ≡ ask_of w pair → trail ≡ why_words w pair →
    reply_text number trail pair ≡ why_text w pair
unfolding why_text
reply_told w pair number values trail e t = ap (λ (r : Reply). reply_text r.number r.values pair) (why_replied_lem w pair number values trail e t)

-- The words stored are read back as the store.
pub chip_told : (chip words : List ℕ) (pair : Pair) → length chip / word_bytes ≤ length words → (stored : List ℕ) → stored ≡ sets words 0 (words_of chip) →
    why_text (take (length chip / word_bytes - 0) stored) pair ≡ why_text (words_of chip) pair
chip_told chip words pair h stored e =
    let n : length chip / word_bytes - 0 ≡ length (words_of chip) = omega (arith, words_length chip) in
    rw (e, n) (ap (λ (w : List ℕ). why_text w pair) (part_stored words 0 (words_of chip) (omega (arith, words_length chip))))

-- What is left in the buffer, under another name.
pub tells_same : {o : Outcome} {words out w v u : List ℕ} {r : Told} → u ≡ v → Tells o words out w v r → Tells o words out w u r
tells_same e t = rw e t

-- What the code leaves on each of its ways: where there is not room, and of wrong and of good input.
module _ (badge floor chip words out : List ℕ) where
  abbrev told : Outcome
  told = told_in (length out) (length words) badge floor chip

  tells_nothing : nothing_told ≡ told → Tells told words out words out (record { length = 0; stream = Output })
  tells_nothing e = rw (← e) (record { prints = printed_none; fits = omega arith; stream = refl; stores = refl })

  pub tells_short : length out < text_room → Tells told words out words out (record { length = 0; stream = Output })
  unfolding told_in
  tells_short h = tells_nothing (rw (and_false_left (leb text_room (length out)) (leb word_room (length words)) (lt-leb text_room (length out) h)))

  pub tells_wordless : length words < word_room → Tells told words out words out (record { length = 0; stream = Output })
  unfolding told_in
  tells_wordless h = tells_nothing (rw (and_false_right (leb text_room (length out)) (leb word_room (length words)) (lt-leb word_room (length words) h)))

  module _ (roomy : text_room ≤ length out) (wordy : word_room ≤ length words) where
    told_judged : {judged : Judged} → judged ≡ judged_input badge floor chip → outcome chip judged ≡ told
    unfolding told_in told_of
    told_judged e = rw (le-leb text_room (length out) roomy, le-leb word_room (length words) wordy, e)

    pub tells_wrong : {wrong : Wrong} {v : List ℕ} {end : ℕ} → Err wrong ≡ judged_input badge floor chip → Printed out 0 (wrong_text wrong) v end →
        end ≤ text_room → Tells told words out words v (record { length = end; stream = Error })
    tells_wrong e p h = rw (← told_judged e) (record { prints = p; fits = omega arith; stream = refl; stores = refl })

    pub tells_good : {pair : Pair} {w v : List ℕ} {end : ℕ} → Ok pair ≡ judged_input badge floor chip → Printed out 0 (why_text (words_of chip) pair) v end →
        end ≤ text_room → w ≡ sets words 0 (words_of chip) → Tells told words out w v (record { length = end; stream = Output })
    tells_good e p h stored = rw (← told_judged e) (record { prints = p; fits = omega arith; stream = refl; stores = stored })
