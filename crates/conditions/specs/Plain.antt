-- The same calls on a plain set of pairs, an ascending list of at most M pairs. It knows of no level, page or fence. Assumes nothing.
use Rattle.std.specs.Prelude.{ℕ, ◌+◌, ◌*◌, ◌/◌, ◌≡◌, refl, true, false, cond, List, [], ◌∷◌, length, take, ltb, eqb}
use Rattle.std.proofs.lemmas.List.Edits.{sets}
use Rattle.laws.specs.Lists.{passing}
use Rattle.geometry.specs.declared.Geometry.{Geometry}
use Rattle.geometry.specs.Geometry.{most}
use Rattle.slot.specs.declared.Pair.{Pair}
use Rattle.rules.specs.Listing.{pair_words}
use Rattle.promises.specs.Plain.{has}
use Rattle.promises.specs.Answers.{answer}
use Rattle.promises.specs.Listed.{between}
use Rattle.conditions.specs.Calls.{Task, formatting, changing, asking, explaining, listing, checking, Call}
use Rattle.conditions.specs.Lengths.{refusal, passed, geometry_then}

-- What a set can answer: the reply's number, the values that it decides, and the words of list's slice.
pub record Answer : Type 0 where
  pub number : ℕ
  pub values : List ℕ
  pub slice : List ℕ

-- Pairs written into a slice in order, two words each, until it has no room for two more; the other words stay. Told are how many, and a mark: 1
-- exactly if the slice has no room for two more words after them.
unfoldable pub fills_slice : List Pair → List ℕ → Answer
fills_slice pairs slice =
    let listed = take (length slice / 2) pairs in
    record {
      number = 0;
      values = length listed ∷ elim (ltb (length slice) (2 * length listed + 2)) [ true ↦ 1 | false ↦ 0 ] ∷ [];
      slice = sets slice 0 (pair_words listed);
    }

-- Put and drop tell how many pairs there are then; ask whether the pair is among them, 1 or 0; list those from its first to its second.
unfoldable pub answer_to : ℕ → Task → List Pair → Answer
answer_to limit (formatting g) set = record { number = 0; values = 0 ∷ []; slice = [] }
answer_to limit (changing r work) set =
    let a = answer limit r set in
    record { number = a.reply; values = cond (eqb a.reply 0) (length a.after) 0 ∷ []; slice = [] }
answer_to limit (asking p) set = record { number = 0; values = cond (has p set) 1 0 ∷ []; slice = [] }
answer_to limit (explaining p) set = record { number = 0; values = cond (has p set) 1 0 ∷ []; slice = [] }
answer_to limit (listing first second slice) set = fills_slice (passing (between first second) set) slice
answer_to limit checking set = record { number = 0; values = 0 ∷ []; slice = [] }

-- The set after it.
unfoldable pub leaves : ℕ → Task → List Pair → List Pair
leaves limit (formatting g) set = []
leaves limit (changing r work) set = (answer limit r set).after
leaves limit (asking p) set = set
leaves limit (explaining p) set = set
leaves limit (listing first second slice) set = set
leaves limit checking set = set

-- A refusal returns zeros and changes nothing.
unfoldable pub refusing : ℕ → Task → Answer
refusing n (formatting g) = record { number = n; values = 0 ∷ []; slice = [] }
refusing n (changing r work) = record { number = n; values = 0 ∷ []; slice = [] }
refusing n (asking p) = record { number = n; values = 0 ∷ []; slice = [] }
refusing n (explaining p) = record { number = n; values = 0 ∷ []; slice = [] }
refusing n (listing first second slice) = record { number = n; values = 0 ∷ 0 ∷ []; slice = slice }
refusing n checking = record { number = n; values = 0 ∷ []; slice = [] }

-- A call, after the tests of lengths; calls one after another.
unfoldable pub answered : Geometry → Call → List Pair → Answer
answered g c set = let n = refusal g c in passed n (answer_to (most g) c.task set) (refusing n c.task)

unfoldable pub set_then : Geometry → Call → List Pair → List Pair
set_then g c set = passed (refusal g c) (leaves (most g) c.task set) set

unfoldable pub answers : Geometry → List Pair → List Call → List Answer
answers g set [] = []
answers g set (c ∷ cs) = answered g c set ∷ answers (geometry_then g c) (set_then g c set) cs

unfoldable pub set_after : Geometry → List Pair → List Call → List Pair
set_after g set [] = set
set_after g set (c ∷ cs) = set_after (geometry_then g c) (set_then g c set) cs

-- A refusal's number is told.
pub refusing_number : (n : ℕ) (task : Task) → (refusing n task).number ≡ n
unfolding refusing
refusing_number n (formatting g) = refl
refusing_number n (changing q work) = refl
refusing_number n (asking p) = refl
refusing_number n (explaining p) = refl
refusing_number n (listing first second slice) = refl
refusing_number n checking = refl
