-- The same calls by the rules: the state after them, and the pages that each writes, as a list of pages whose contents are given anew.
-- Assumes nothing.
use Rattle.std.specs.Prelude.{List, [], ◌∷◌}
use Rattle.geometry.specs.declared.Geometry.{Geometry}
use Rattle.rules.specs.Merging.{PageWrite, State, formatted}
use Rattle.rules.specs.Requests.{step}
use Rattle.conditions.specs.Calls.{Task, formatting, changing, asking, explaining, listing, checking, Call}
use Rattle.conditions.specs.Lengths.{refusal, passed, geometry_then}

unfoldable pub moves_to : Geometry → Task → State → State
moves_to g (formatting h) s = formatted h
moves_to g (changing r work) s = (step g r s).after
moves_to g (asking p) s = s
moves_to g (explaining p) s = s
moves_to g (listing first second slice) s = s
moves_to g checking s = s

unfoldable pub writes_by : Geometry → Task → State → List PageWrite
writes_by g (formatting h) s = []
writes_by g (changing r work) s = (step g r s).written
writes_by g (asking p) s = []
writes_by g (explaining p) s = []
writes_by g (listing first second slice) s = []
writes_by g checking s = []

-- A call, after the tests of lengths; calls one after another.
unfoldable pub state_then : Geometry → Call → State → State
state_then g c s = passed (refusal g c) (moves_to g c.task s) s

unfoldable pub writes : Geometry → Call → State → List PageWrite
writes g c s = passed (refusal g c) (writes_by g c.task s) []

unfoldable pub state_after : Geometry → State → List Call → State
state_after g s [] = s
state_after g s (c ∷ cs) = state_after (geometry_then g c) (state_then g c s) cs

unfoldable pub pages_written : Geometry → State → List Call → List (List PageWrite)
pages_written g s [] = []
pages_written g s (c ∷ cs) = writes g c s ∷ pages_written (geometry_then g c) (state_then g c s) cs
