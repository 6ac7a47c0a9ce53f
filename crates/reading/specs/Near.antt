-- The end of a line, sought only among as many bytes as the longest operation's line has: where it is found the line ends, else the line names none. Assumes nothing.
use Rattle.std.specs.Prelude.{ℕ, zero, suc, ◌+◌, ◌-◌, ◌≤◌, ◌<◌, ◌≡◌, refl, ⊤, Bool, true, false, List, [], ◌∷◌, length, take, drop, min, eqb, nat_eq, Option, Some, None}
use Rattle.std.specs.Cmp.Lexicographic.{pointwise}
use Rattle.std.proofs.Common.{arith, ap, sym, ◌∙◌, eqb-true, drop-drop, take-take, length-take-le, length-drop}
use Rattle.std.proofs.lemmas.List.{drop-take, length-take, take_min}
use Rattle.std.proofs.Math.Option.{some, none}
use Rattle.lines.specs.Lines.{Line, longer, lines_of, first_among, rest_of, is_line, begins, Endless, ended, line_ends, line_goes_on, rest_stays, begins_line}
use Rattle.lines.specs.Comparing.{begins_told}
use Rattle.lines.specs.Told.{ahead, EndsAt, LineEnds}
use Rattle.reading.specs.Sheet.{put_text, drop_text, ask_text, operation}
use Rattle.reading.specs.Told.{NamedAs}

abbrev pub most_operation : ℕ
most_operation = 8

-- A line that ends among the first bytes is the first of all lines, and the next begins behind its byte 10.
abbrev First : Line → List ℕ → Type 0
First none bs = ⊤
First (some l) bs = (first_among (lines_of bs) ≡ some l) × (rest_of (lines_of bs) ≡ lines_of (drop (suc (length l)) bs))

first_near : (k : ℕ) (bs : List ℕ) → First (first_among (lines_of (take k bs))) bs
unfolding lines_of
first_near zero bs = tt
first_near (suc k) [] = tt
first_near (suc k) (b ∷ bs) = by (eqb b 10) refl (first_near k bs)
  where
    on : eqb b 10 ≡ false → (l : Line) → First l bs → First (longer b l) (b ∷ bs)
    on e none t = tt
    on e (some l) (p, q) = (line_goes_on b bs e ∙ ap (longer b) p, rest_stays b bs e ∙ q)

    by : (x : Bool) → eqb b 10 ≡ x → First (first_among (lines_of (take k bs))) bs → First (first_among (lines_of (b ∷ take k bs))) (b ∷ bs)
    by true e ih =
        let ends = eqb-true b 10 e in
        rw (ap first_among (line_ends b (take k bs) ends)) (ap first_among (line_ends b bs ends), ap rest_of (line_ends b bs ends))
    by false e ih = rw (line_goes_on b (take k bs) e) (on e (first_among (lines_of (take k bs))) ih)

-- Whether bytes begin with a text is told by as many of them as it has.
begins_near : (k : ℕ) (text bs : List ℕ) → length text ≤ k → begins text (take k bs) ≡ begins text bs
begins_near k text bs h =
    sym (begins_told text (take k bs)) ∙ ap (pointwise nat_eq text) (take-take (length text) k bs h) ∙ begins_told text bs

module _ (w : List ℕ) (at : ℕ) where
  abbrev near : List ℕ
  near = take (at + most_operation) w

  near_ahead : drop at near ≡ take most_operation (drop at w)
  near_ahead = drop-take at most_operation w

  ends_near : (end : ℕ) → end < length near → EndsAt near at end → LineEnds w at (Some end)
  ends_near end inside ends =
      let bytes = take (end - at) (drop at w) in
      let long : length near ≡ min (at + most_operation) (length w) = length-take (at + most_operation) w in
      let same : take (end - at) (drop at near) ≡ bytes = ap (take (end - at)) near_ahead ∙ take-take (end - at) most_operation (drop at w) (omega (arith, long)) in
      let line : first_among (lines_of (take most_operation (drop at w))) ≡ some bytes = ap (λ l. first_among (lines_of l)) (sym near_ahead) ∙ ends.line inside ∙ ap some same in
      let first : First (some bytes) (drop at w) = rw line at (first_near most_operation (drop at w)) in
      let size : length bytes ≡ end - at = length-take-le (end - at) (drop at w) (omega (arith, long, length-drop at w)) in
      let place : at + suc (length bytes) ≡ end + 1 = omega (arith, size, ends.onward) in
      let before : end < length w = omega (arith, long) in (
        before,
        record {
          onward = ends.onward;
          within = omega (arith, before);
          unended = λ e. absurd (omega (arith, before, e));
          line = λ _. first.0;
          rest = λ _. first.1 ∙ ap lines_of (drop-drop (suc (length bytes)) at w) ∙ ap (ahead w) place;
        },
      )

  module _ (ends : EndsAt near at (length near)) where
    no_line : (text : List ℕ) → Endless text → length (ended text) ≤ most_operation → is_line text (first_among (ahead w at)) ≡ false
    unfolding is_line
    no_line text endless short =
        begins_line text (drop at w) endless ∙ sym (begins_near most_operation (ended text) (drop at w) short) ∙
        ap (begins (ended text)) (sym near_ahead) ∙ sym (begins_line text (drop at near) endless) ∙ ap (is_line text) (ends.unended refl)

    unnamed_near : NamedAs w at None
    unfolding operation
    unnamed_near = rw (no_line put_text refl (omega arith), no_line drop_text refl (omega arith), no_line ask_text refl (omega arith), operation) refl

  -- What is sought up to a place is the line's end, or there is none so near and the line names no operation.
  abbrev pub EndsNear : Option ℕ → Type 0
  EndsNear (Some end) = LineEnds w at (Some end)
  EndsNear None = NamedAs w at None

  pub near_told : (m : ℕ) → m ≡ min (at + most_operation) (length w) → (r : Option ℕ) → LineEnds (take m w) at r → EndsNear r
  near_told m e r ends = told r (rw (e, take_min (at + most_operation) w) at ends)
    where
      told : (r : Option ℕ) → LineEnds near at r → EndsNear r
      told (Some end) (inside, ends) = ends_near end inside ends
      told None ends = unnamed_near ends
