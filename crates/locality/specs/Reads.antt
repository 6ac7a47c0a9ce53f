-- The pages that an ask or a why reads: those of why's lines below the head, the page of level 1, then that of level 2, as far as it goes. At most
-- one page in each lower level. Assumes nothing.
use Rattle.std.specs.Prelude.{ℕ, zero, suc, ◌≤◌, ◌≡◌, Bool, length}
use Rattle.std.proofs.Common.{arith}
use Rattle.std.proofs.Math.Path.{refl}
use Rattle.std.proofs.Math.Bool.{true, false, cond}
use mathlib.Core.List.{List, []}
use Rattle.std.proofs.lemmas.List.{length-map}
use Rattle.geometry.specs.declared.Geometry.{Geometry}
use Rattle.geometry.specs.Geometry.{bottom}
use Rattle.slot.specs.declared.Pair.{Pair}
use Rattle.rules.specs.Sound.{directory_right}
use Rattle.geometry.specs.Directory.{geometry_of}
use Rattle.walk.specs.Step.{head_step}
use Rattle.walk.specs.Trail.{lines_on, trail, walk_lines, line_pages, pages_below, lines_few}
use Rattle.opening.specs.Reply.{by_first}
use Rattle.opening.specs.Opening.{opening}
use Rattle.call_why.specs.Why.{why_lines}

unfoldable pub pages_read : List ℕ → Pair → List ℕ
pages_read w asked = pages_below (why_lines w asked)

-- A walk reads none where the directory is not right, an ask none where an opening test fails.
unfoldable pub walk_reads : Geometry → List ℕ → Pair → List ℕ
walk_reads g w asked = pages_below (walk_lines g w asked)

pub pages_read_lem : (w : List ℕ) (asked : Pair) → pages_read w asked ≡ by_first (opening w) (walk_reads (geometry_of w) w asked) (λ n. [])
unfolding pages_read walk_reads why_lines pages_below line_pages
pages_read_lem w asked = by (opening w)
  where
    by : (n : ℕ) → pages_below (by_first n (walk_lines (geometry_of w) w asked) (λ n. [])) ≡ by_first n (pages_below (walk_lines (geometry_of w) w asked)) (λ n. [])
    by zero = refl
    by (suc n) = refl

-- The pages read where the directory is right: those of the lines below what the head told.
module _ (g : Geometry) (w : List ℕ) (asked : Pair) where
  pub walk_reads_lem : walk_reads g w asked ≡ cond (directory_right g w) (line_pages (lines_on g w asked (bottom g) 0 (head_step g w asked))) []
  unfolding walk_reads walk_lines trail pages_below line_pages
  walk_reads_lem = by (directory_right g w)
    where
      by : (b : Bool) → pages_below (cond b (trail g w asked) []) ≡ cond b (line_pages (lines_on g w asked (bottom g) 0 (head_step g w asked))) []
      by true = refl
      by false = refl

-- At most one page in each lower level.
pub reads_few : (w : List ℕ) (asked : Pair) → length (pages_read w asked) ≤ bottom (geometry_of w)
unfolding line_pages
reads_few w asked = rw (pages_read_lem w asked, walk_reads_lem (geometry_of w) w asked) (by (opening w) (directory_right (geometry_of w) w))
  where
    g : Geometry
    g = geometry_of w

    below : List ℕ
    below = line_pages (lines_on g w asked (bottom g) 0 (head_step g w asked))

    by : (n : ℕ) (b : Bool) → length (by_first n (cond b below []) (λ n. [])) ≤ bottom g
    by zero true = rw (length-map (lines_on g w asked (bottom g) 0 (head_step g w asked)) (λ line. line.page)) (lines_few g w asked (bottom g) 0 (head_step g w asked))
    by zero false = omega arith
    by (suc n) b = omega arith
