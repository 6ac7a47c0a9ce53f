-- The paper's section "The sheet program", as far as it is read: a sheet is a geometry and requests, or its first faulty line is told. Assumes nothing.
use Rattle.std.specs.Prelude.{ℕ, ◌+◌, ◌≤◌, ◌≡◌, refl, Bool, true, false, cond, List, [], ◌∷◌, length, leb, eqb}
use Rattle.std.proofs.Common.{arith}
use Rattle.std.proofs.Math.Option.{Option, some, none}
use Rattle.geometry.specs.declared.Geometry.{Geometry}
use Rattle.geometry.specs.Geometry.{between}
use Rattle.geometry.specs.Places.{store_words}
use Rattle.lines.specs.Lines.{Line, lines_of, first_among, rest_of, is_line, behind, begun}
use Rattle.lines.specs.Number.{value}
use Rattle.lines.specs.Judged.{Judged, faulty, good}
use Rattle.reading.specs.declared.Operation.{Operation}
use Rattle.reading.specs.declared.Operation.TheVariants.{Put, Drop, Ask}
use Rattle.reading.specs.declared.Request.{Request}

-- At most 16,384 bytes, and a store of at most 4,096 words.
abbrev pub most_bytes : ℕ
most_bytes = 16384

abbrev pub most_words : ℕ
most_words = 4096

-- head=, ratio=, levels=, badge=, floor=
abbrev pub head_name : List ℕ
head_name = 104 ∷ 101 ∷ 97 ∷ 100 ∷ 61 ∷ []

abbrev pub ratio_name : List ℕ
ratio_name = 114 ∷ 97 ∷ 116 ∷ 105 ∷ 111 ∷ 61 ∷ []

abbrev pub levels_name : List ℕ
levels_name = 108 ∷ 101 ∷ 118 ∷ 101 ∷ 108 ∷ 115 ∷ 61 ∷ []

abbrev pub badge_name : List ℕ
badge_name = 98 ∷ 97 ∷ 100 ∷ 103 ∷ 101 ∷ 61 ∷ []

abbrev pub floor_name : List ℕ
floor_name = 102 ∷ 108 ∷ 111 ∷ 111 ∷ 114 ∷ 61 ∷ []

-- op=put, op=drop, op=ask
abbrev pub put_text : List ℕ
put_text = 111 ∷ 112 ∷ 61 ∷ 112 ∷ 117 ∷ 116 ∷ []

abbrev pub drop_text : List ℕ
drop_text = 111 ∷ 112 ∷ 61 ∷ 100 ∷ 114 ∷ 111 ∷ 112 ∷ []

abbrev pub ask_text : List ℕ
ask_text = 111 ∷ 112 ∷ 61 ∷ 97 ∷ 115 ∷ 107 ∷ []

-- The number behind a line's name, if it is in a range.
abbrev pub inside : ℕ → ℕ → Option ℕ → Option ℕ
inside least most none = none
inside least most (some n) = cond (between least most n) (some n) none

abbrev pub ranged : ℕ → ℕ → List ℕ → Line → Option ℕ
ranged least most name l = inside least most (value name l)

-- The operation that a line names.
unfoldable pub operation : Line → Option Operation
operation l =
    elim (is_line put_text l) [
      | true ↦ some Put
      | false ↦ elim (is_line drop_text l) [ true ↦ some Drop | false ↦ elim (is_line ask_text l) [ true ↦ some Ask | false ↦ none ] ]
    ]

-- A group whose first line has the number n, before the requests that follow it.
abbrev pub joined : Request → Judged (List Request) → Judged (List Request)
joined r (faulty n) = faulty n
joined r (good rs) = good (r ∷ rs)

abbrev pub group : ℕ → Option Operation → Option ℕ → Option ℕ → Judged (List Request) → Judged (List Request)
group n none badge floor rest = faulty n
group n (some op) none floor rest = faulty (n + 1)
group n (some op) (some badge) none rest = faulty (n + 2)
group n (some op) (some badge) (some floor) rest = joined (record { operation = op; pair = record { badge = badge; floor = record { 0 = floor } } }) rest

-- The requests of some lines, the first of which has the number n. Inside a group no line may be missing.
unfoldable pub requests_from : ℕ → List Line → Judged (List Request)
requests_from n [] = good []
requests_from n (a ∷ []) = group n (operation a) none none (good [])
requests_from n (a ∷ b ∷ []) = group n (operation a) (value badge_name b) none (good [])
requests_from n (a ∷ b ∷ c ∷ ls) = group n (operation a) (value badge_name b) (value floor_name c) (requests_from (n + 3) ls)

-- A sheet: its geometry and its requests.
pub record Sheet : Type 0 where
  pub geometry : Geometry
  pub requests : List Request

abbrev pub sheet_for : Geometry → Judged (List Request) → Judged Sheet
sheet_for g (faulty n) = faulty n
sheet_for g (good rs) = good (record { geometry = g; requests = rs })

-- The first three lines; a store that is too long is a fault of the third.
abbrev pub heading : Option ℕ → Option ℕ → Option ℕ → Judged (List Request) → Judged Sheet
heading none ratio levels rest = faulty 1
heading (some head) none levels rest = faulty 2
heading (some head) (some ratio) none rest = faulty 3
heading (some head) (some ratio) (some levels) rest =
    let g : Geometry = record { head = head; ratio = ratio; levels = levels } in
    elim (leb (store_words g) most_words) [ true ↦ sheet_for g rest | false ↦ faulty 3 ]

unfoldable pub judged_lines : List Line → Judged Sheet
judged_lines ls =
    heading (ranged 1 64 head_name (first_among ls)) (ranged 2 8 ratio_name (first_among (rest_of ls))) (ranged 2 4 levels_name (first_among (rest_of (rest_of ls))))
    (requests_from 4 (rest_of (rest_of (rest_of ls))))

-- Too much input comes before all else.
unfoldable pub judged : List ℕ → Judged Sheet
judged bytes = elim (leb (length bytes) most_bytes) [ true ↦ judged_lines (lines_of bytes) | false ↦ faulty 0 ]

-- Where bytes are left, there is a line, and so a group.
pub requests_here : (n : ℕ) (bytes : List ℕ) → 1 ≤ length bytes →
    let ls = lines_of bytes in
    requests_from n ls ≡ group n (operation (first_among ls)) (value badge_name (first_among (rest_of ls))) (value floor_name (first_among (rest_of (rest_of ls))))
    (requests_from (n + 3) (rest_of (rest_of (rest_of ls))))
unfolding lines_of requests_from behind
requests_here n [] h = absurd (omega arith)
requests_here n (b ∷ bytes) h = by (eqb b 10) (lines_of bytes)
  where
    Here : List Line → Type 0
    Here ls =
        requests_from n ls ≡ group n (operation (first_among ls)) (value badge_name (first_among (rest_of ls))) (value floor_name (first_among (rest_of (rest_of ls))))
        (requests_from (n + 3) (rest_of (rest_of (rest_of ls))))

    here : (l : Line) (ls : List Line) → Here (l ∷ ls)
    here l [] = refl
    here l (m ∷ []) = refl
    here l (m ∷ o ∷ ls) = refl

    by : (x : Bool) (ls : List Line) → Here (elim x as (λ _. List Line) [ true ↦ some [] ∷ ls | false ↦ begun b ls ])
    by true ls = here (some []) ls
    by false [] = here none []
    by false (l ∷ ls) = here _ ls
