-- The lines of a text, each ended by byte 10, and how bytes that stand at a place tell the line that begins there. Assumes nothing.
use Rattle.std.specs.Prelude.{ℕ, suc, ◌≤◌, ◌≡◌, Bool, true, false, not, ◌&&◌, length, drop, eqb}
use Rattle.std.proofs.Common.{arith, ap, ◌∙◌, eqb-true}
use Rattle.std.proofs.Math.Path.{refl, sym}
use Rattle.std.proofs.lemmas.Bool.{false≢true, not-true}
use mathlib.Core.List.{List, [], ◌∷◌, ◌++◌}
use Rattle.std.proofs.Math.Option.{Option, some, none}
use Rattle.laws.specs.Lists.{equal}
use Rattle.laws.specs.Tests.{and_left, and_right}

-- A line's bytes before its byte 10; a line that is missing or unended has none.
abbrev pub Line : Type 0
Line = Option (List ℕ)

-- A line with one more byte in front; the lines of a text with one more byte in front that is not byte 10.
abbrev pub longer : ℕ → Line → Line
longer b (some l) = some (b ∷ l)
longer b none = none

abbrev pub begun : ℕ → List Line → List Line
begun b [] = none ∷ []
begun b (l ∷ ls) = longer b l ∷ ls

unfoldable pub lines_of : List ℕ → List Line
lines_of [] = []
lines_of (b ∷ bs) = elim (eqb b 10) [ true ↦ some [] ∷ lines_of bs | false ↦ begun b (lines_of bs) ]

-- The first of some lines, and those behind it.
abbrev pub first_among : List Line → Line
first_among [] = none
first_among (l ∷ ls) = l

abbrev pub rest_of : List Line → List Line
rest_of ls = drop 1 ls

-- Whether a line is just this text, and what it has behind a name that it begins with.
unfoldable pub is_line : List ℕ → Line → Bool
is_line text none = false
is_line text (some l) = equal l text

unfoldable pub behind : List ℕ → Line → Line
behind [] l = l
behind (n ∷ ns) none = none
behind (n ∷ ns) (some []) = none
behind (n ∷ ns) (some (b ∷ l)) = elim (eqb b n) [ true ↦ behind ns (some l) | false ↦ none ]

-- Whether bytes begin with these.
unfoldable pub begins : List ℕ → List ℕ → Bool
begins [] bs = true
begins (n ∷ ns) [] = false
begins (n ∷ ns) (b ∷ bs) = elim (eqb b n) [ true ↦ begins ns bs | false ↦ false ]

-- Byte 10 ends a line; any other goes on with it.
pub line_ends : (b : ℕ) (bs : List ℕ) → b ≡ 10 → lines_of (b ∷ bs) ≡ some [] ∷ lines_of bs
unfolding lines_of
line_ends b bs e = rw (e, lines_of)

module _ (b : ℕ) (bs : List ℕ) (e : eqb b 10 ≡ false) where
  begun_lines : lines_of (b ∷ bs) ≡ begun b (lines_of bs)
  unfolding lines_of
  begun_lines = rw (e, lines_of)

  pub line_goes_on : first_among (lines_of (b ∷ bs)) ≡ longer b (first_among (lines_of bs))
  line_goes_on = ap first_among begun_lines ∙ of (lines_of bs)
    where
      of : (ls : List Line) → first_among (begun b ls) ≡ longer b (first_among ls)
      of [] = refl
      of (l ∷ ls) = refl

  pub rest_stays : rest_of (lines_of (b ∷ bs)) ≡ rest_of (lines_of bs)
  rest_stays = ap rest_of begun_lines ∙ of (lines_of bs)
    where
      of : (ls : List Line) → rest_of (begun b ls) ≡ rest_of ls
      of [] = refl
      of (l ∷ ls) = refl

-- No byte of a text ends a line.
abbrev pub endless : List ℕ → Bool
endless [] = true
endless (b ∷ bs) = not (eqb b 10) && endless bs

abbrev pub Endless : List ℕ → Type 0
Endless text = endless text ≡ true

module _ (n : ℕ) (ns : List ℕ) (e : Endless (n ∷ ns)) where
  first_goes_on : eqb n 10 ≡ false
  first_goes_on = not-true (eqb n 10) (and_left (not (eqb n 10)) (endless ns) e)

  rest_endless : Endless ns
  rest_endless = and_right (not (eqb n 10)) (endless ns) e

-- A byte is a text's first one, is another and goes on with the line, or ends it.
data First (b n : ℕ) : Type 0 where
  that : eqb b n ≡ true → eqb b 10 ≡ false → First b n
  other : eqb b n ≡ false → eqb b 10 ≡ false → First b n
  end : eqb b n ≡ false → b ≡ 10 → First b n

first_of_lem : (b n : ℕ) → eqb n 10 ≡ false → First b n
first_of_lem b n h = by (eqb b n) refl (eqb b 10) refl
  where
    by : (x : Bool) → eqb b n ≡ x → (y : Bool) → eqb b 10 ≡ y → First b n
    by true e y f = that e (rw (eqb-true b n e) h)
    by false e true f = end e (eqb-true b 10 f)
    by false e false f = other e f

-- A line that begins with a name's first byte.
module _ (n : ℕ) (ns : List ℕ) (b : ℕ) where
  behind_that : (l : Line) → eqb b n ≡ true → behind (n ∷ ns) (longer b l) ≡ behind ns l
  unfolding behind
  behind_that none e = sym (none_behind ns)
    where
      none_behind : (ms : List ℕ) → behind ms none ≡ none
      none_behind [] = refl
      none_behind (m ∷ ms) = refl
  behind_that (some l) e = rw (e, behind)

  behind_other : (l : Line) → eqb b n ≡ false → behind (n ∷ ns) (longer b l) ≡ none
  unfolding behind
  behind_other none e = refl
  behind_other (some l) e = rw (e, behind)

  pub is_that : (l : Line) → eqb b n ≡ true → is_line (n ∷ ns) (longer b l) ≡ is_line ns l
  unfolding is_line equal
  is_that none e = refl
  is_that (some l) e = rw (e, equal)

  is_other : (l : Line) → eqb b n ≡ false → is_line (n ∷ ns) (longer b l) ≡ false
  unfolding is_line equal
  is_other none e = refl
  is_other (some l) e = rw (e, equal)

  pub begins_that : (bs : List ℕ) → eqb b n ≡ true → begins (n ∷ ns) (b ∷ bs) ≡ begins ns bs
  unfolding begins
  begins_that bs e = rw (e, begins)

  pub begins_other : (bs : List ℕ) → eqb b n ≡ false → begins (n ∷ ns) (b ∷ bs) ≡ false
  unfolding begins
  begins_other bs e = rw (e, begins)

-- Where the bytes at a place begin with a name, the line there has behind it the line that begins behind the name; else it has none.
pub behind_name : (name bs : List ℕ) → Endless name → begins name bs ≡ true →
    (behind name (first_among (lines_of bs)) ≡ first_among (lines_of (drop (length name) bs))) × (rest_of (lines_of bs) ≡ rest_of (lines_of (drop (length name) bs)))
unfolding behind begins
behind_name [] bs h e = (refl, refl)
behind_name (n ∷ ns) [] h e = absurd (false≢true e)
behind_name (n ∷ ns) (b ∷ bs) h e = by (first_of_lem b n (first_goes_on n ns h)) (behind_name ns bs (rest_endless n ns h))
  where
    by : First b n →
        (begins ns bs ≡ true → (behind ns (first_among (lines_of bs)) ≡ first_among (lines_of (drop (length ns) bs))) × (rest_of (lines_of bs) ≡ rest_of (lines_of (drop (length ns) bs)))) →
        (behind (n ∷ ns) (first_among (lines_of (b ∷ bs))) ≡ first_among (lines_of (drop (length ns) bs))) × (rest_of (lines_of (b ∷ bs)) ≡ rest_of (lines_of (drop (length ns) bs)))
    by (that x y) ih =
        let rest = ih (sym (begins_that n ns b bs x) ∙ e) in
        (ap (behind (n ∷ ns)) (line_goes_on b bs y) ∙ behind_that n ns b (first_among (lines_of bs)) x ∙ rest.0, rest_stays b bs y ∙ rest.1)
    by (other x y) ih = absurd (false≢true (sym (begins_other n ns b bs x) ∙ e))
    by (end x y) ih = absurd (false≢true (sym (begins_other n ns b bs x) ∙ e))

pub no_name : (name bs : List ℕ) → Endless name → begins name bs ≡ false → behind name (first_among (lines_of bs)) ≡ none
unfolding behind begins lines_of
no_name [] bs h e = absurd (false≢true (sym e))
no_name (n ∷ ns) [] h e = refl
no_name (n ∷ ns) (b ∷ bs) h e = by (first_of_lem b n (first_goes_on n ns h)) (no_name ns bs (rest_endless n ns h))
  where
    by : First b n → (begins ns bs ≡ false → behind ns (first_among (lines_of bs)) ≡ none) → behind (n ∷ ns) (first_among (lines_of (b ∷ bs))) ≡ none
    by (that x y) ih = ap (behind (n ∷ ns)) (line_goes_on b bs y) ∙ behind_that n ns b (first_among (lines_of bs)) x ∙ ih (sym (begins_that n ns b bs x) ∙ e)
    by (other x y) ih = ap (behind (n ∷ ns)) (line_goes_on b bs y) ∙ behind_other n ns b (first_among (lines_of bs)) x
    by (end x y) ih = ap (λ (ls : List Line). behind (n ∷ ns) (first_among ls)) (line_ends b bs y)

-- The bytes at a place begin with a text and byte 10 exactly if the line there is that text; the next line then begins behind them.
abbrev pub ended : List ℕ → List ℕ
ended text = text ++ 10 ∷ []

pub begins_line : (text bs : List ℕ) → Endless text → is_line text (first_among (lines_of bs)) ≡ begins (ended text) bs
unfolding begins lines_of is_line equal
begins_line [] [] h = refl
begins_line [] (b ∷ bs) h = by (eqb b 10) refl
  where
    empty : (l : Line) → is_line [] (longer b l) ≡ false
    empty none = refl
    empty (some l) = refl

    by : (x : Bool) → eqb b 10 ≡ x → is_line [] (first_among (lines_of (b ∷ bs))) ≡ begins (10 ∷ []) (b ∷ bs)
    by true e = ap (λ (ls : List Line). is_line [] (first_among ls)) (line_ends b bs (eqb-true b 10 e)) ∙ sym (begins_that 10 [] b bs e)
    by false e = ap (is_line []) (line_goes_on b bs e) ∙ empty (first_among (lines_of bs)) ∙ sym (begins_other 10 [] b bs e)
begins_line (n ∷ ns) [] h = refl
begins_line (n ∷ ns) (b ∷ bs) h = by (first_of_lem b n (first_goes_on n ns h)) (begins_line ns bs (rest_endless n ns h))
  where
    by : First b n → is_line ns (first_among (lines_of bs)) ≡ begins (ended ns) bs → is_line (n ∷ ns) (first_among (lines_of (b ∷ bs))) ≡ begins (n ∷ ended ns) (b ∷ bs)
    by (that x y) ih =
        ap (is_line (n ∷ ns)) (line_goes_on b bs y) ∙ is_that n ns b (first_among (lines_of bs)) x ∙ ih ∙ sym (begins_that n (ended ns) b bs x)
    by (other x y) ih = ap (is_line (n ∷ ns)) (line_goes_on b bs y) ∙ is_other n ns b (first_among (lines_of bs)) x ∙ sym (begins_other n (ended ns) b bs x)
    by (end x y) ih = ap (λ (ls : List Line). is_line (n ∷ ns) (first_among ls)) (line_ends b bs y) ∙ sym (begins_other n (ended ns) b bs x)

pub next_line : (text bs : List ℕ) → Endless text → begins (ended text) bs ≡ true → rest_of (lines_of bs) ≡ lines_of (drop (length (ended text)) bs)
unfolding begins
next_line [] [] h e = absurd (false≢true e)
next_line [] (b ∷ bs) h e = by (eqb b 10) refl
  where
    by : (x : Bool) → eqb b 10 ≡ x → rest_of (lines_of (b ∷ bs)) ≡ lines_of bs
    by true f = ap rest_of (line_ends b bs (eqb-true b 10 f))
    by false f = absurd (false≢true (sym (begins_other 10 [] b bs f) ∙ e))
next_line (n ∷ ns) [] h e = absurd (false≢true e)
next_line (n ∷ ns) (b ∷ bs) h e = by (first_of_lem b n (first_goes_on n ns h)) (next_line ns bs (rest_endless n ns h))
  where
    by : First b n → (begins (ended ns) bs ≡ true → rest_of (lines_of bs) ≡ lines_of (drop (length (ended ns)) bs)) →
        rest_of (lines_of (b ∷ bs)) ≡ lines_of (drop (length (ended ns)) bs)
    by (that x y) ih = rest_stays b bs y ∙ ih (sym (begins_that n (ended ns) b bs x) ∙ e)
    by (other x y) ih = absurd (false≢true (sym (begins_other n (ended ns) b bs x) ∙ e))
    by (end x y) ih = absurd (false≢true (sym (begins_other n (ended ns) b bs x) ∙ e))

-- Bytes that begin with others are as many at least.
pub begins_long : (text bs : List ℕ) → begins text bs ≡ true → length text ≤ length bs
unfolding begins
begins_long [] bs e = omega arith
begins_long (n ∷ ns) [] e = absurd (false≢true e)
begins_long (n ∷ ns) (b ∷ bs) e = by (eqb b n) refl (begins_long ns bs)
  where
    by : (x : Bool) → eqb b n ≡ x → (begins ns bs ≡ true → length ns ≤ length bs) → suc (length ns) ≤ suc (length bs)
    by true f ih = let h = ih (sym (begins_that n ns b bs f) ∙ e) in omega arith
    by false f ih = absurd (false≢true (sym (begins_other n ns b bs f) ∙ e))
