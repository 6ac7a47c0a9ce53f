-- From what the calls of a function told to what the function tells: the operation that a line names, a number inside a range. Assumes nothing.
use Rattle.std.specs.Prelude.{ℕ, ◌+◌, ◌≤◌, ◌<◌, ◌≡◌, Bool, List, [], ◌∷◌, length, take, drop, leb, nat_eq, Some, None, ◌-◌}
use Rattle.std.specs.Bool.{then_some}
use Rattle.std.specs.Cmp.Lexicographic.{pointwise}
use Rattle.std.proofs.lemmas.Slice.Eq.{bytes_eq-Decides}
use Rattle.std.proofs.Math.Option.{some}
use Rattle.laws.specs.Lists.{equal, equal_cons}
use Rattle.std.proofs.Common.{arith, ap, ◌∙◌, length-take-le, length-drop}
use Rattle.std.proofs.Math.Path.{refl}
use Rattle.std.proofs.Math.Bool.{true, false}
use borrow.Author.Tests.{le-leb, lt-leb}
use Rattle.laws.specs.Tests.{and_false_right}
use Rattle.geometry.specs.Geometry.{between}
use Rattle.lines.specs.Lines.{first_among, is_line, begins, Endless, ended}
use Rattle.lines.specs.Number.{value}
use Rattle.lines.specs.Told.{ahead, EndsAt, ReadAs}
use Rattle.lines.specs.Values.{text_told, text_read}
use Rattle.reading.specs.declared.Operation.{Operation}
use Rattle.reading.specs.declared.Operation.TheVariants.{Put, Drop, Ask}
use Rattle.reading.specs.Sheet.{put_text, drop_text, ask_text, inside, ranged, operation}
use Rattle.reading.specs.Told.{OperationAs, NamedAs}

-- The operation that a line names.
module _ (w : List ℕ) (at : ℕ) (in_place : at ≤ length w) where
  abbrev Begins : List ℕ → Bool → Type 0
  Begins text b = b ≡ begins (ended text) (drop at w)

  is : (text : List ℕ) → Endless text → (b : Bool) → Begins text b → is_line text (first_among (ahead w at)) ≡ b
  is text endless b e = text_told w at in_place text endless b e

  pub named_put : Begins put_text true → NamedAs w at (Some (Put, at + 7))
  unfolding operation
  named_put e = (rw (is put_text refl true e, operation) refl, text_read w at in_place put_text refl 6 (omega arith) e)

  pub named_drop : Begins put_text false → Begins drop_text true → NamedAs w at (Some (Drop, at + 8))
  unfolding operation
  named_drop p e = (rw (is put_text refl false p, is drop_text refl true e, operation) refl, text_read w at in_place drop_text refl 6 (omega arith) e)

  pub named_ask : Begins put_text false → Begins drop_text false → Begins ask_text true → NamedAs w at (Some (Ask, at + 7))
  unfolding operation
  named_ask p d e =
      (rw (is put_text refl false p, is drop_text refl false d, is ask_text refl true e, operation) refl, text_read w at in_place ask_text refl 6 (omega arith) e)

  pub named_none : Begins put_text false → Begins drop_text false → Begins ask_text false → NamedAs w at None
  unfolding operation
  named_none p d e = rw (is put_text refl false p, is drop_text refl false d, is ask_text refl false e, operation) refl

-- A number outside or inside a range.
module _ (w : List ℕ) (at past least most : ℕ) (name : List ℕ) where
  pub ranged_faulty : ReadAs w at past (value name) None → ReadAs w at past (ranged least most name) None
  ranged_faulty e = ap (inside least most) e

  module _ (n next : ℕ) (p : ReadAs w at past (value name) (Some (n, next))) where
    pub ranged_low : n < least → ReadAs w at past (ranged least most name) None
    unfolding between
    ranged_low h = rw (p.0, lt-leb least n h)

    pub ranged_high : most < n → ReadAs w at past (ranged least most name) None
    unfolding between
    ranged_high h = rw (p.0, and_false_right (leb least n) (leb n most) (lt-leb n most h))

    pub ranged_in : least ≤ n → n ≤ most → ReadAs w at past (ranged least most name) (Some (n, next))
    unfolding between
    ranged_in h k = (rw (p.0, le-leb least n h, le-leb n most k), p.1)

    pub ranged_told : (b : Bool) → b ≡ between least most n → ReadAs w at past (ranged least most name) (then_some b (n, next))
    ranged_told true e = (rw (p.0, ← e) refl, p.1)
    ranged_told false e = rw (p.0, ← e) refl

-- The operation that the bytes of a line name, as the library compares them.
module _ (l : List ℕ) where
  abbrev Compares : List ℕ → Bool → Type 0
  Compares text b = pointwise nat_eq l text ≡ b

  same : (ms ns : List ℕ) → equal ms ns ≡ pointwise nat_eq ms ns
  unfolding equal
  same [] [] = refl
  same [] (n ∷ ns) = refl
  same (m ∷ ms) [] = refl
  same (m ∷ ms) (n ∷ ns) = equal_cons m n ms ns ∙ rw (same ms ns)

  compared : (text : List ℕ) (b : Bool) → Compares text b → is_line text (some l) ≡ b
  unfolding is_line
  compared text b e = same l text ∙ e

  long : (text : List ℕ) → Compares text true → length l ≡ length text
  long text e = ap length ((bytes_eq-Decides l text).0 e)

  pub operation_put : Compares put_text true → OperationAs l (Some Put)
  unfolding operation
  operation_put e = (rw (compared put_text true e, operation) refl, omega (arith, long put_text e))

  pub operation_drop : Compares put_text false → Compares drop_text true → OperationAs l (Some Drop)
  unfolding operation
  operation_drop p e = (rw (compared put_text false p, compared drop_text true e, operation) refl, omega (arith, long drop_text e))

  pub operation_ask : Compares put_text false → Compares drop_text false → Compares ask_text true → OperationAs l (Some Ask)
  unfolding operation
  operation_ask p d e = (rw (compared put_text false p, compared drop_text false d, compared ask_text true e, operation) refl, omega (arith, long ask_text e))

  pub operation_none : Compares put_text false → Compares drop_text false → Compares ask_text false → OperationAs l None
  unfolding operation
  operation_none p d e = rw (compared put_text false p, compared drop_text false d, compared ask_text false e, operation) refl

-- The line at a place names what its bytes do.
module _ (w : List ℕ) (at end : ℕ) (ends : EndsAt w at end) where
  pub unended_line : end ≡ length w → NamedAs w at None
  unfolding operation is_line
  unended_line e = ap operation (ends.unended e)

  module _ (inside : end < length w) where
    pub faulty_line : OperationAs (take (end - at) (drop at w)) None → NamedAs w at None
    faulty_line e = ap operation (ends.line inside) ∙ e

    pub named_line : (op : Operation) → OperationAs (take (end - at) (drop at w)) (Some op) → NamedAs w at (Some (op, end + 1))
    named_line op e =
        let onward : at + 6 < end + 1 = omega (arith, ends.onward, e.1, length-take-le (end - at) (drop at w) (omega (arith, length-drop at w))) in
        (ap operation (ends.line inside) ∙ e.0, record { follows = ends.rest inside; passes = onward; within = omega arith })
