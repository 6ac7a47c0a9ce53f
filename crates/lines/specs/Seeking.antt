-- The byte 10 at the end of a line, sought byte by byte. Assumes nothing.
use Rattle.std.specs.Prelude.{ℕ, zero, suc, ◌+◌, ◌-◌, ◌≤◌, ◌<◌, ◌≡◌, refl, length, get_or, take, drop, Option as Answer, Some, None, MatchOption, option_map}
use Rattle.std.specs.List.{AllWithin, HoldsAt}
use Rattle.std.proofs.Common.{add-zero, add-one, add-suc, arith, sym, ◌∙◌, length-drop, drop_of_length-le, drop-cons, take-suc, get_or-drop, ne_eqb}
use Rattle.std.proofs.Math.Path.{ap}
use mathlib.Core.List.{List, [], ◌∷◌, ◌++◌, append-nil, append_assoc}
use Rattle.std.proofs.Math.Option.{some, none}
use Rattle.lines.specs.Lines.{Line, longer, lines_of, first_among, rest_of, line_ends, line_goes_on, rest_stays}
use Rattle.lines.specs.Told.{ahead, EndsAt, LineEnds}

-- A line with more bytes in front.
abbrev after : List ℕ → Line → Line
after bs (some l) = some (bs ++ l)
after bs none = none

after_none : (l : Line) → l ≡ after [] l
after_none (some l) = refl
after_none none = refl

after_longer : (bs : List ℕ) (b : ℕ) (l : Line) → after bs (longer b l) ≡ after (bs ++ b ∷ []) l
after_longer bs b (some l) = ap some (sym (append_assoc bs (b ∷ []) l))
after_longer bs b none = refl

-- The bytes passed so far all belong to the line.
abbrev passed : List ℕ → ℕ → ℕ → List ℕ
passed w from at = take (at - from) (drop from w)

pub record Seeking (w : List ℕ) (from at : ℕ) : Type 0 where
  pub onward : from ≤ at
  pub within : at ≤ length w
  pub first : first_among (ahead w from) ≡ after (passed w from at) (first_among (ahead w at))
  pub rest : rest_of (ahead w from) ≡ rest_of (ahead w at)

module _ (w : List ℕ) (from : ℕ) where
  pub seek_begins : from ≤ length w → Seeking w from from
  seek_begins h =
      let none_yet : from - from ≡ 0 = omega arith in
      record { onward = omega arith; within = h; first = rw none_yet (after_none (first_among (ahead w from))); rest = refl }

  module _ (at : ℕ) (c : Seeking w from at) where
    pub seek_fails : length w ≤ at → EndsAt w from at
    unfolding lines_of
    seek_fails h = record {
      onward = c.onward;
      within = c.within;
      unended = λ e. c.first ∙ ap (λ (l : List ℕ). after (passed w from at) (first_among (lines_of l))) (drop_of_length-le w h);
      line = λ k. absurd (omega arith);
      rest = λ k. absurd (omega arith);
    }

    module _ (inside : at < length w) where
      abbrev byte : ℕ
      byte = get_or w at 0

      here : ahead w at ≡ lines_of (byte ∷ drop (suc at) w)
      here = ap lines_of (drop-cons w at 0 inside)

      pub seek_ends : byte ≡ 10 → EndsAt w from at
      seek_ends e =
          let ends : ahead w at ≡ some [] ∷ ahead w (suc at) = here ∙ line_ends byte (drop (suc at) w) e in
          record {
            onward = c.onward;
            within = c.within;
            unended = λ k. absurd (omega (arith, k));
            line = λ k. c.first ∙ ap (λ (ls : List Line). after (passed w from at) (first_among ls)) ends ∙ ap some (append-nil (passed w from at));
            rest = λ k. c.rest ∙ ap rest_of ends ∙ ap (ahead w) (sym (add-one at));
          }

      -- One byte more belongs to the line.
      passed_more : passed w from (at + 1) ≡ passed w from at ++ byte ∷ []
      passed_more =
          let more : at + 1 - from ≡ suc (at - from) = omega (arith, c.onward) in
          let place : from + (at - from) ≡ at = omega (arith, c.onward) in
          rw (more, take-suc (drop from w) (at - from) 0 (omega (arith, length-drop from w, c.onward)), get_or-drop from w (at - from) 0, place) refl

      pub seek_goes_on : (byte ≡ 10 → ⊥) → Seeking w from (at + 1)
      seek_goes_on other =
          let goes : first_among (ahead w at) ≡ longer byte (first_among (ahead w (suc at))) = ap first_among here ∙ line_goes_on byte (drop (suc at) w) (ne_eqb byte 10 other) in
          record {
            onward = omega (arith, c.onward);
            within = omega arith;
            first =
                c.first ∙ ap (after (passed w from at)) goes ∙ after_longer (passed w from at) byte (first_among (ahead w (suc at))) ∙
                rw (passed_more, add-one at);
            rest = c.rest ∙ ap rest_of here ∙ rest_stays byte (drop (suc at) w) (ne_eqb byte 10 other) ∙ ap (λ (i : ℕ). rest_of (ahead w i)) (sym (add-one at));
          }

  -- Where no byte before one of them is byte 10, all before it belong to the line; so the first byte 10, or that there is none, tells how the line ends.
  module _ (in_place : from ≤ length w) where
    abbrev Other : ℕ → Type 0
    Other b = b ≡ 10 → ⊥

    seek_up : (n : ℕ) → from + n ≤ length w → AllWithin Other (drop from w) 0 n → Seeking w from (from + n)
    seek_up zero h others = rw (add-zero from) (seek_begins in_place)
    seek_up (suc n) h others =
        let other : get_or w (from + n) 0 ≡ 10 → ⊥ = λ e. others n 0 (omega arith) (omega arith) (get_or-drop from w n 0 ∙ e) in
        rw (add-suc from n, ← add-one (from + n)) (seek_goes_on (from + n) (seek_up n (omega arith) (λ k d l m. others k d l (omega arith))) (omega arith) other)

    pub seek_told : (r : Answer ℕ) →
        MatchOption r (AllWithin Other (drop from w) 0 (length (drop from w))) (λ i. (i < length (drop from w)) × HoldsAt (λ b. b ≡ 10) (drop from w) i × AllWithin Other (drop from w) 0 i) →
        LineEnds w from (option_map (λ n. from + n) r)
    seek_told None others =
        let all : from + length (drop from w) ≡ length w = omega (arith, length-drop from w) in
        rw (← all) (seek_fails (from + length (drop from w)) (seek_up (length (drop from w)) (omega arith) others) (omega arith))
    seek_told (Some i) (inside, here, others) =
        let before : from + i < length w = omega (arith, length-drop from w) in
        (before, seek_ends (from + i) (seek_up i (omega arith) others) before (sym (get_or-drop from w i 0) ∙ here 0))
