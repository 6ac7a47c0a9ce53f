-- The walk with its trail: a line for each level read, from the head down. Assumes nothing.
use Prim.Native.Nat.{ℕ, zero, suc, ◌+◌, ◌-◌, ◌≤◌, ◌<◌}
use native.Mathlib.Omega.{arith}
use Rattle.std.specs.Prelude.{◌≡◌, Bool, cond, List, [], ◌∷◌, map, drop}
use Rattle.std.proofs.Math.Path.{refl}
use Rattle.std.proofs.Math.Bool.{true, false}
use Rattle.std.proofs.Math.ListN.{length}
use Rattle.geometry.specs.declared.Geometry.{Geometry}
use Rattle.geometry.specs.Geometry.{bottom}
use Rattle.slot.specs.declared.Pair.{Pair}
use Rattle.slot.specs.declared.Pid.{Pid}
use Rattle.fault.specs.declared.Fault.{Fault}
use Rattle.rules.specs.Sound.{directory_right}
use Rattle.form.specs.Passes.{head_scanned, page_scanned}
use Rattle.walk.specs.Stepping.{Step}
use Rattle.walk.specs.Stepping.{Decided, Follow, Nothing, Broken}
use Rattle.walk.specs.Step.{head_step, page_step}

-- The page read, the head's is 0; how many of its slots are at most the pair, of which the last is where the walk stopped; and what it told.
pub record Line : Type 0 where
  pub page : ℕ
  pub reach : ℕ
  pub step : Step

unfoldable pub head_line : Geometry → List ℕ → Pair → Line
head_line g w asked = record { page = 0; reach = (head_scanned g w asked).reach; step = head_step g w asked }

unfoldable pub page_line : Geometry → List ℕ → Pair → ℕ → ℕ → Line
page_line g w asked i p = record { page = p; reach = (page_scanned g w asked i p).reach; step = page_step g w asked i p }

-- The lines below level i, of n levels, by what level i told.
unfoldable pub lines_on : Geometry → List ℕ → Pair → ℕ → ℕ → Step → List Line
lines_on g w asked zero i step = []
lines_on g w asked (suc n) i (Decided held) = []
lines_on g w asked (suc n) i (Follow page) =
    page_line g w asked (suc i) page.0 ∷ lines_on g w asked n (suc i) (page_step g w asked (suc i) page.0)
lines_on g w asked (suc n) i Nothing = []
lines_on g w asked (suc n) i (Broken f) = []

unfoldable pub trail : Geometry → List ℕ → Pair → List Line
trail g w asked = head_line g w asked ∷ lines_on g w asked (bottom g) 0 (head_step g w asked)

-- No level is read where the directory is not right.
unfoldable pub walk_lines : Geometry → List ℕ → Pair → List Line
walk_lines g w asked = cond (directory_right g w) (trail g w asked) []

-- The lines from a page of level i on.
unfoldable pub lines_from : Geometry → List ℕ → Pair → ℕ → ℕ → List Line
lines_from g w asked i page = lines_on g w asked (g.levels - i) (i - 1) (Follow (record { 0 = page }))

-- What follows on each that a level may tell.
module _ (g : Geometry) (w : List ℕ) (asked : Pair) where
  pub lines_decided : (n i : ℕ) (held : Bool) → lines_on g w asked n i (Decided held) ≡ []
  unfolding lines_on
  lines_decided zero i held = refl
  lines_decided (suc n) i held = refl

  pub lines_nothing : (n i : ℕ) → lines_on g w asked n i Nothing ≡ []
  unfolding lines_on
  lines_nothing zero i = refl
  lines_nothing (suc n) i = refl

  pub lines_broken : (n i : ℕ) (f : Fault) → lines_on g w asked n i (Broken f) ≡ []
  unfolding lines_on
  lines_broken zero i f = refl
  lines_broken (suc n) i f = refl

  pub lines_into : (i page : ℕ) → 1 ≤ i → i < g.levels →
      lines_from g w asked i page ≡ page_line g w asked i page ∷ lines_on g w asked (g.levels - (i + 1)) i (page_step g w asked i page)
  unfolding lines_from lines_on
  lines_into i page k h =
      let n : g.levels - i ≡ suc (g.levels - (i + 1)) = omega arith in
      let s : suc (i - 1) ≡ i = omega arith in
      rw (n, lines_on, s)

  pub lines_follow : (i : ℕ) (page : Pid) → lines_on g w asked (g.levels - (i + 1)) i (Follow page) ≡ lines_from g w asked (i + 1) page.0
  unfolding lines_from
  lines_follow i page =
      let s : i + 1 - 1 ≡ i = omega arith in
      rw s

  pub lines_end : (i page : ℕ) → g.levels ≤ i → lines_from g w asked i page ≡ []
  unfolding lines_from lines_on
  lines_end i page h =
      let n : g.levels - i ≡ 0 = omega arith in
      rw n

  -- At most one line for each level below.
  pub lines_few : (n i : ℕ) (step : Step) → length (lines_on g w asked n i step) ≤ n
  unfolding lines_on
  lines_few zero i step = omega arith
  lines_few (suc n) i (Decided held) = omega arith
  lines_few (suc n) i (Follow page) = omega (arith, lines_few n (suc i) (page_step g w asked (suc i) page.0))
  lines_few (suc n) i Nothing = omega arith
  lines_few (suc n) i (Broken f) = omega arith

  pub trail_few : length (trail g w asked) ≤ suc (bottom g)
  unfolding trail
  trail_few = omega (arith, lines_few (bottom g) 0 (head_step g w asked))

  pub walk_lines_few : length (walk_lines g w asked) ≤ suc (bottom g)
  unfolding walk_lines
  walk_lines_few = by (directory_right g w)
    where
      by : (b : Bool) → length (cond b (trail g w asked) []) ≤ suc (bottom g)
      by true = trail_few
      by false = omega arith

  -- Where the directory is right, the lines of a walk are its trail.
  pub directory_lines : directory_right g w ≡ true → walk_lines g w asked ≡ trail g w asked
  unfolding walk_lines
  directory_lines e = rw e

-- The pages of lines; and the pages that a trail reads below the head, from the top down.
unfoldable pub line_pages : List Line → List ℕ
line_pages lines = map (λ line. line.page) lines

unfoldable pub pages_below : List Line → List ℕ
pages_below lines = line_pages (drop 1 lines)
