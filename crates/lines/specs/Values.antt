-- From what the calls of a reader told to what the reader tells: a line that is a text, a line's number, the number behind a name. Assumes nothing.
use Rattle.std.specs.Prelude.{ℕ, ◌+◌, ◌-◌, ◌≤◌, ◌<◌, ◌≡◌, refl, Bool, true, false, List, [], ◌∷◌, length, take, drop, Option as Answer, Some, None}
use Rattle.std.proofs.Common.{arith, sym, ap, ◌∙◌, length-drop, drop-drop}
use Rattle.std.proofs.Math.Option.{some, none}
use Rattle.lines.specs.Lines.{Line, lines_of, first_among, rest_of, is_line, begins, Endless, ended, begins_line, next_line, begins_long, behind_name, no_name}
use Rattle.lines.specs.Number.{numeral, number_in, value}
use Rattle.lines.specs.Told.{ahead, Onward, ReadAs, EndsAt}

-- The lines n bytes further on.
further : (w : List ℕ) (at n : ℕ) → lines_of (drop n (drop at w)) ≡ ahead w (at + n)
further w at n = ap lines_of (drop-drop n at w)

module _ (w : List ℕ) (at : ℕ) (in_place : at ≤ length w) where
  abbrev first : Line
  first = first_among (ahead w at)

  -- A line that is just a text.
  module _ (text : List ℕ) (endless : Endless text) where
    pub text_told : (b : Bool) → b ≡ begins (ended text) (drop at w) → is_line text first ≡ b
    text_told b e = begins_line text (drop at w) endless ∙ sym e

    pub text_read : (past : ℕ) → past ≤ length text → true ≡ begins (ended text) (drop at w) → Onward w at past (at + length (ended text))
    text_read past h e = record {
      follows = next_line text (drop at w) endless (sym e) ∙ further w at (length (ended text));
      passes = omega (arith, ended_long text);
      within = omega (arith, begins_long (ended text) (drop at w) (sym e), length-drop at w);
    }
      where
        ended_long : (l : List ℕ) → length (ended l) ≡ length l + 1
        ended_long [] = refl
        ended_long (b ∷ l) = omega (arith, ended_long l)

  -- A number: no line to read it from, the bytes of a line read, and told that they are none.
  module _ (end : ℕ) (q : EndsAt w at end) where
    pub number_unended : end ≡ length w → ReadAs w at 0 number_in None
    number_unended e = ap number_in (q.unended e)

    module _ (inside : end < length w) where
      pub number_read : (n : ℕ) → numeral (take (end - at) (drop at w)) ≡ some n → ReadAs w at 0 number_in (Some (n, end + 1))
      number_read n e =
          (ap number_in (q.line inside) ∙ e, record { follows = q.rest inside; passes = omega (arith, q.onward); within = omega arith })

      pub number_faulty : numeral (take (end - at) (drop at w)) ≡ none → ReadAs w at 0 number_in None
      number_faulty e = ap number_in (q.line inside) ∙ e

  -- The number behind a name.
  module _ (name : List ℕ) (endless : Endless name) where
    pub value_unnamed : false ≡ begins name (drop at w) → ReadAs w at (length name) (value name) None
    value_unnamed e = ap number_in (no_name name (drop at w) endless (sym e))

    pub name_within : true ≡ begins name (drop at w) → at + length name ≤ length w
    name_within e = omega (arith, begins_long name (drop at w) (sym e), length-drop at w)

    pub value_named : true ≡ begins name (drop at w) → (r : Answer (ℕ × ℕ)) → ReadAs w (at + length name) 0 number_in r → ReadAs w at (length name) (value name) r
    value_named e r p =
        let behind-it = behind_name name (drop at w) endless (sym e) in
        told r (ap number_in (behind-it.0 ∙ ap first_among (further w at (length name)))) (behind-it.1 ∙ ap rest_of (further w at (length name))) p
      where
        told : (r : Answer (ℕ × ℕ)) → value name first ≡ number_in (first_among (ahead w (at + length name))) → rest_of (ahead w at) ≡ rest_of (ahead w (at + length name)) →
            ReadAs w (at + length name) 0 number_in r → ReadAs w at (length name) (value name) r
        told (Some (n, next)) v s (p, q) = (v ∙ p, record { follows = s ∙ q.follows; passes = omega (arith, q.passes); within = q.within })
        told None v s p = v ∙ p
