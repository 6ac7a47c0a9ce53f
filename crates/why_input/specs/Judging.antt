-- What the input is judged as, by the way that the code takes. Assumes nothing.
use Rattle.std.specs.Prelude.{ℕ, ◌%◌, ◌≤◌, ◌<◌, ◌≡◌, List, length, Ok, Err}
use Rattle.std.proofs.Math.Option.{some, none}
use borrow.Author.Tests.{eq-eqb, ne_eqb, lt-ltb, le-ltb}
use Rattle.slot.specs.Pair.{pair}
use Rattle.chip.specs.Bytes.{word_bytes}
use Rattle.lines.specs.Number.{numeral}
use Rattle.why_input.specs.declared.Wrong.{Wrong}
use Rattle.why_input.specs.declared.Wrong.TheVariants.{Badge, Floor, Long, Uneven}
use Rattle.why_input.specs.Input.{wrong_text, most_bytes, with_chip, judged_input}

module _ (badge floor chip : List ℕ) where
  pub judged_badge : numeral badge ≡ none → Err Badge ≡ judged_input badge floor chip
  unfolding judged_input
  judged_badge e = rw e

  module _ (b : ℕ) (e : numeral badge ≡ some b) where
    pub judged_floor : numeral floor ≡ none → Err Floor ≡ judged_input badge floor chip
    unfolding judged_input
    judged_floor n = rw (e, n)

    module _ (f : ℕ) (n : numeral floor ≡ some f) where
      pub judged_long : most_bytes < length chip → Err Long ≡ judged_input badge floor chip
      unfolding judged_input with_chip
      judged_long h = rw (e, n, lt-ltb most_bytes (length chip) h)

      module _ (short : length chip ≤ most_bytes) where
        pub judged_uneven : (length chip % word_bytes ≡ 0 → ⊥) → Err Uneven ≡ judged_input badge floor chip
        unfolding judged_input with_chip
        judged_uneven h = rw (e, n, le-ltb most_bytes (length chip) short, ne_eqb (length chip % word_bytes) 0 h)

        pub judged_good : length chip % word_bytes ≡ 0 → Ok (pair b f) ≡ judged_input badge floor chip
        unfolding judged_input with_chip
        judged_good h = rw (e, n, le-ltb most_bytes (length chip) short, eq-eqb (length chip % word_bytes) 0 h)

-- Wrong input, under the name that the code matched.
pub wrong_named : (wrong named : Wrong) → wrong ≡ named → wrong_text named ≡ wrong_text wrong
wrong_named wrong named e = rw e
