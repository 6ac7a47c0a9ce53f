-- As much of what calls came to as a plain set can answer. Assumes nothing.
use Rattle.std.specs.Prelude.{ℕ, ◌≡◌, refl, List, [], map, take}
use Rattle.opening.specs.Reply.{Reply}
use Rattle.conditions.specs.Calls.{Task, formatting, changing, asking, explaining, listing, checking, Made}
use Rattle.conditions.specs.Plain.{Answer}

-- All of format, of list how many pairs and the mark; of the others the number and the first value, for the rest tell of levels and pages.
unfoldable pub seen_of : Task → Reply → List ℕ → Answer
seen_of (formatting g) r beside = record { number = r.number; values = r.values; slice = [] }
seen_of (changing q work) r beside = record { number = r.number; values = take 1 r.values; slice = [] }
seen_of (asking p) r beside = record { number = r.number; values = take 1 r.values; slice = [] }
seen_of (explaining p) r beside = record { number = r.number; values = take 1 r.values; slice = [] }
seen_of (listing first second slice) r beside = record { number = r.number; values = take 2 r.values; slice = beside }
seen_of checking r beside = record { number = r.number; values = take 1 r.values; slice = [] }

unfoldable pub seen : List Made → List Answer
seen ms = map (λ m. seen_of m.task m.reply m.beside) ms

-- The number is the reply's.
pub seen_number : (task : Task) (r : Reply) (beside : List ℕ) → (seen_of task r beside).number ≡ r.number
unfolding seen_of
seen_number (formatting g) r beside = refl
seen_number (changing q work) r beside = refl
seen_number (asking p) r beside = refl
seen_number (explaining p) r beside = refl
seen_number (listing first second slice) r beside = refl
seen_number checking r beside = refl
