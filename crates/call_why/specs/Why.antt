-- Why on any words: the lines of its trail, and the trail as a total function of words and pair. Assumes nothing.
use Rattle.std.specs.Prelude.{ℕ, zero, suc, ◌-◌, ◌≤◌, ◌≡◌, cond, List, [], ◌∷◌, ◌++◌, length, get_or, take, replicate, set, eqb, Ok, Err}
use Rattle.std.proofs.Common.{arith, sym, ap, ◌∙◌, ne_eqb}
use Rattle.std.proofs.Math.Path.{refl}
use Rattle.geometry.specs.declared.Store.{Store}
use Rattle.geometry.specs.Directory.{geometry_of}
use Rattle.slot.specs.declared.Pair.{Pair}
use Rattle.walk.specs.Trail.{Line, walk_lines, walk_lines_few}
use Rattle.opening.specs.declared.Unopened.{Unopened}
use Rattle.opening.specs.declared.Unopened.TheVariants.{Range, Length}
use Rattle.opening.specs.Opening.{opening, Opens, opened_range}
use Rattle.opening.specs.Reply.{Reply, replied, by_first}
use Rattle.call_ask.specs.Ask.{ask_of, ask_refused_lem, three_values, answer_ends, ask_values}
use Rattle.walk.specs.Lines.{lines_words, length_lines_words, noted, noted_words}
use Rattle.trail_words.specs.Places.{trail_words, trail_levels}

-- No line where an opening test fails.
unfoldable pub why_lines : List ℕ → Pair → List Line
why_lines w pair = by_first (opening w) (walk_lines (geometry_of w) w pair) (λ n. [])

-- The lines noted, by what the opening tests gave.
module _ (w : List ℕ) (pair : Pair) where
  pub lines_refused : (n : ℕ) → opening w ≡ suc n → (t : List ℕ) → t ≡ noted t 0 (why_lines w pair)
  unfolding why_lines noted
  lines_refused n e t = rw e refl

  pub lines_unopened : (why : Unopened) → Opens w (Err why) → (t : List ℕ) → t ≡ noted t 0 (why_lines w pair)
  lines_unopened Range o = lines_refused 0 o
  lines_unopened Length o = lines_refused 4 o

  pub lines_walked : opening w ≡ 0 → (t : List ℕ) → noted t 0 (walk_lines (geometry_of w) w pair) ≡ noted t 0 (why_lines w pair)
  unfolding why_lines
  lines_walked o t = rw o refl

  pub lines_opened : (s : Store) → Opens w (Ok s) → (t : List ℕ) → noted t 0 (walk_lines s.geometry s.words.now pair) ≡ noted t 0 (why_lines w pair)
  unfolding why_lines
  lines_opened s o t = rw (o.1, o.2, o.0) refl

-- Of an answer held and the deciding level, then the lines; of a refusal its values, and no lines.
abbrev pub why_values : Reply → List Line → List ℕ
why_values reply lines = by_first reply.number (take 2 reply.values ++ lines_words trail_levels lines) (λ n. reply.values ++ replicate (trail_words - 3) 0)

unfoldable pub why_words : List ℕ → Pair → List ℕ
why_words w pair = why_values (ask_of w pair) (why_lines w pair)

-- The reply that a host gets: ask's number, and the trail.
unfoldable pub why_of : List ℕ → Pair → Reply
why_of w pair = record { number = (ask_of w pair).number; values = why_words w pair }

-- By ask's reply.
pub why_by_ask : (w : List ℕ) (pair : Pair) (reply : Reply) → reply ≡ ask_of w pair →
    record { number = reply.number; values = why_values reply (why_lines w pair) } ≡ why_of w pair
unfolding why_of why_words
why_by_ask w pair reply e = rw e

pub why_refused : (w : List ℕ) (pair : Pair) (n : ℕ) → opening w ≡ suc n → record { number = suc n; values = replicate trail_words 0 } ≡ why_of w pair
why_refused w pair n e = why_by_ask w pair (record { number = suc n; values = 0 ∷ 0 ∷ 0 ∷ [] }) (ask_refused_lem w pair n e)

pub why_replied_lem : (w : List ℕ) (pair : Pair) (number : ℕ) (values words : List ℕ) → replied number values ≡ ask_of w pair → words ≡ why_words w pair →
    replied number words ≡ why_of w pair
unfolding why_of
why_replied_lem w pair number values words e t = rw (ap (λ (r : Reply). r.number) e, t)

-- A trail has its words: of an answer two values and four lines, of a refusal three values.
why_lines_few : (w : List ℕ) (pair : Pair) → length (why_lines w pair) ≤ trail_levels
unfolding why_lines
why_lines_few w pair = by (opening w) refl
  where
    by : (n : ℕ) → opening w ≡ n → length (by_first n (walk_lines (geometry_of w) w pair) (λ m. [])) ≤ trail_levels
    by zero e =
        let fit = opened_range w e in
        omega (arith, walk_lines_few (geometry_of w) w pair, fit.levels_least, fit.levels_most)
    by (suc n) e = omega arith

length_told : (number a b c : ℕ) (lines : List Line) → length (why_values (replied number (a ∷ b ∷ c ∷ [])) lines) ≡ trail_words
length_told zero a b c lines = omega (arith, length_lines_words trail_levels lines)
length_told (suc n) a b c lines = refl

pub length_why_words : (w : List ℕ) (pair : Pair) → length (why_words w pair) ≡ trail_words
unfolding why_words
length_why_words w pair =
    let reply = ask_of w pair in
    ap (λ (v : List ℕ). length (why_values (replied reply.number v) (why_lines w pair))) (three_values w pair) ∙
    length_told reply.number (get_or reply.values 0 0) (get_or reply.values 1 0) (get_or reply.values 2 0) (why_lines w pair)

-- What the code makes of ask's reply and of the lines noted.
abbrev pub headed : ℕ → ℕ → ℕ → ℕ → List Line → List ℕ
headed number a b c lines = set (set (cond (eqb number 0) (noted (replicate trail_words 0) 0 lines) (set (replicate trail_words 0) 2 c)) 0 a) 1 b

headed_words : (number a b c : ℕ) (lines : List Line) → length lines ≤ trail_levels → headed number a b c lines ≡ why_values (replied number (a ∷ b ∷ c ∷ [])) lines
unfolding lines_words
headed_words zero a b c lines few = ap (λ (t : List ℕ). set (set t 0 a) 1 b) (noted_words lines few)
headed_words (suc n) a b c lines few = rw (ne_eqb (suc n) 0 (λ e. omega (arith, e))) refl

pub headed_why : (w : List ℕ) (pair : Pair) (number : ℕ) (values : List ℕ) → replied number values ≡ ask_of w pair →
    headed number (get_or values 0 0) (get_or values 1 0) (get_or values 2 0) (why_lines w pair) ≡ why_words w pair
unfolding why_words
headed_why w pair number values e =
    headed_words number (get_or values 0 0) (get_or values 1 0) (get_or values 2 0) (why_lines w pair) (why_lines_few w pair) ∙
    ap (λ (v : List ℕ). why_values (replied number v) (why_lines w pair)) (sym (ask_values w pair number values e)) ∙
    ap (λ (r : Reply). why_values r (why_lines w pair)) e

-- Ask's values in a trail: of an answer the first two, of a refusal the first three.
abbrev pub asks_values : ℕ → List ℕ → List ℕ
asks_values number trail = by_first number (take 2 trail ++ 0 ∷ []) (λ n. take 3 trail)

agrees : (number a b c : ℕ) (lines : List Line) → (number ≡ 0 → c ≡ 0) →
    asks_values number (why_values (replied number (a ∷ b ∷ c ∷ [])) lines) ≡ a ∷ b ∷ c ∷ []
agrees zero a b c lines none = rw (none refl) refl
agrees (suc n) a b c lines none = refl

-- Number and first values are ask's.
pub why_agrees_with_ask : (w : List ℕ) (pair : Pair) → replied (why_of w pair).number (asks_values (why_of w pair).number (why_of w pair).values) ≡ ask_of w pair
unfolding why_of why_words
why_agrees_with_ask w pair =
    let reply = ask_of w pair in
    ap (replied reply.number)
    (ap (λ (v : List ℕ). asks_values reply.number (why_values (replied reply.number v) (why_lines w pair))) (three_values w pair) ∙
    agrees reply.number (get_or reply.values 0 0) (get_or reply.values 1 0) (get_or reply.values 2 0) (why_lines w pair) (answer_ends w pair) ∙
    sym (three_values w pair))
