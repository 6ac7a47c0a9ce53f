-- What calls report of pages: each by itself, and in all since the last format. Assumes nothing.
use Rattle.std.specs.Prelude.{ℕ, ◌+◌, cond, List, [], ◌∷◌, map, get_or, eqb}
use Rattle.opening.specs.Reply.{Reply}
use Rattle.conditions.specs.Calls.{Task, formatting, changing, asking, explaining, listing, checking, Made}

-- The third value of put and drop; no other call reports pages.
unfoldable pub pages_in : Task → Reply → ℕ
pages_in (formatting g) r = 0
pages_in (changing q work) r = get_or r.values 2 0
pages_in (asking p) r = 0
pages_in (explaining p) r = 0
pages_in (listing first second slice) r = 0
pages_in checking r = 0

unfoldable pub pages_reported : List Made → List ℕ
pages_reported ms = map (λ m. pages_in m.task m.reply) ms

-- The puts and drops accepted since the last format that was done, and the sum of the pages that they reported.
pub record SinceFormat : Type 0 where
  pub accepted : ℕ
  pub pages : ℕ

abbrev pub none_yet : SinceFormat
none_yet = record { accepted = 0; pages = 0 }

unfoldable pub count_call : Task → Reply → SinceFormat → SinceFormat
count_call (formatting g) r t = cond (eqb r.number 0) none_yet t
count_call (changing q work) r t = record { accepted = t.accepted + cond (eqb r.number 0) 1 0; pages = t.pages + pages_in (changing q work) r }
count_call (asking p) r t = t
count_call (explaining p) r t = t
count_call (listing first second slice) r t = t
count_call checking r t = t

unfoldable pub since_format : SinceFormat → List Made → SinceFormat
since_format t [] = t
since_format t (m ∷ ms) = since_format (count_call m.task m.reply t) ms
