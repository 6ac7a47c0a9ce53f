-- The tests that come before all others, of numbers given and of lengths lent, by a geometry that is in force. Assumes nothing.
use Rattle.std.specs.Prelude.{ℕ, zero, suc, List, [], ◌∷◌, length, eqb}
use Rattle.geometry.specs.declared.Geometry.{Geometry}
use Rattle.geometry.specs.Geometry.{in_range}
use Rattle.geometry.specs.Places.{store_words, work_words}
use Rattle.opening.specs.Reply.{Test, test, first_failing}
use Rattle.conditions.specs.Calls.{Task, formatting, changing, asking, explaining, listing, checking, Call}

-- 1 for numbers outside their ranges; 5 for a store or a work area that is not lent in its exact length.
unfoldable pub tests_of : Geometry → ℕ → Task → List Test
tests_of g lent (formatting h) = test (in_range h) 1 ∷ test (eqb lent (store_words h)) 5 ∷ []
tests_of g lent (changing r work) = test (eqb lent (store_words g)) 5 ∷ test (eqb (length work) (work_words g)) 5 ∷ []
tests_of g lent (asking p) = test (eqb lent (store_words g)) 5 ∷ []
tests_of g lent (explaining p) = test (eqb lent (store_words g)) 5 ∷ []
tests_of g lent (listing first second slice) = test (eqb lent (store_words g)) 5 ∷ []
tests_of g lent checking = test (eqb lent (store_words g)) 5 ∷ []

-- The number of the refusal, or 0 where all pass.
unfoldable pub refusal : Geometry → Call → ℕ
refusal g c = first_failing (tests_of g c.lent c.task)

-- What is so where they pass, and where they do not.
unfoldable pub passed : {A : Type 0} → ℕ → A → A → A
passed zero then instead = then
passed (suc n) then instead = instead

-- The geometry in force after a call: a format that is done gives another.
unfoldable pub given : Geometry → Task → Geometry
given g (formatting h) = h
given g (changing r work) = g
given g (asking p) = g
given g (explaining p) = g
given g (listing first second slice) = g
given g checking = g

unfoldable pub geometry_then : Geometry → Call → Geometry
geometry_then g c = passed (refusal g c) (given g c.task) g

unfoldable pub geometry_after : Geometry → List Call → Geometry
geometry_after g [] = g
geometry_after g (c ∷ cs) = geometry_after (geometry_then g c) cs
