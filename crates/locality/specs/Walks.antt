-- The walks of two stores that agree on the directory, the head and the pages that one of them reads: they answer the same and leave the same
-- lines. Assumes nothing.
use Prim.Native.Nat.{ℕ, zero, suc, ◌*◌, ◌≤◌}
use Rattle.std.specs.Prelude.{◌≡◌, refl, Bool, true, false, cond, Err}
use Rattle.std.proofs.Math.Path.{ap}
use Rattle.std.proofs.Common.{◌∙◌}
use mathlib.Core.List.{List, [], ◌∷◌}
use Rattle.geometry.specs.declared.Geometry.{Geometry}
use Rattle.geometry.specs.Geometry.{bottom}
use Rattle.geometry.specs.Places.{head_room, head_start, directory_words}
use Rattle.slot.specs.declared.Pair.{Pair}
use Rattle.fault.specs.declared.Part.TheVariants.{Directory}
use Rattle.fault.specs.Numbers.{no_place}
use Rattle.rules.specs.Sound.{directory_right}
use Rattle.walk.specs.Stepping.{Step}
use Rattle.walk.specs.Stepping.{Decided, Follow, Nothing, Broken}
use Rattle.walk.specs.Walked.{Walked}
use Rattle.walk.specs.Step.{head_step, page_step}
use Rattle.walk.specs.Walk.{walk_on, walked}
use Rattle.walk.specs.Trail.{Line, page_line, lines_on, trail, walk_lines, line_pages}
use Rattle.locality.specs.Reads.{walk_reads, walk_reads_lem}
use Rattle.locality.specs.Agree.{Same, SamePages, same_directory, same_head_step, same_head_line, same_page_step, same_page_line}

-- Lines that are the same in the first and in the rest.
both : {a b : Line} {l m : List Line} → a ≡ b → l ≡ m → a ∷ l ≡ b ∷ m
both e f = cc

module _ (g : Geometry) (w v : List ℕ) (asked : Pair) (four : g.levels ≤ 4) (directory : Same w v 0 directory_words) where
  -- From what level i told on.
  same_walk_on : (n i : ℕ) (s : Step) → SamePages g w v (suc i) (line_pages (lines_on g w asked n i s)) →
      (walk_on g w asked n i s ≡ walk_on g v asked n i s) × (lines_on g w asked n i s ≡ lines_on g v asked n i s)
  unfolding walk_on lines_on page_line line_pages
  same_walk_on zero i (Decided held) same = (refl, refl)
  same_walk_on zero i (Follow page) same = (refl, refl)
  same_walk_on zero i Nothing same = (refl, refl)
  same_walk_on zero i (Broken f) same = (refl, refl)
  same_walk_on (suc n) i (Decided held) same = (refl, refl)
  same_walk_on (suc n) i (Follow page) same =
      let step = same_page_step w v directory g four asked (suc i) page.0 same.0 in
      let line = same_page_line w v directory g four asked (suc i) page.0 same.0 in
      let rest = same_walk_on n (suc i) (page_step g w asked (suc i) page.0) same.1 in (
        rest.0 ∙ ap (walk_on g v asked n (suc i)) step,
        both line (rest.1 ∙ ap (lines_on g v asked n (suc i)) step),
      )
  same_walk_on (suc n) i Nothing same = (refl, refl)
  same_walk_on (suc n) i (Broken f) same = (refl, refl)

  pub same_walk : Same w v head_start (3 * head_room g) → SamePages g w v 1 (walk_reads g w asked) →
      (walked g w asked ≡ walked g v asked) × (walk_lines g w asked ≡ walk_lines g v asked)
  unfolding walked walk_lines trail
  same_walk head pages = rw (← (same_directory w v directory g)) (by (directory_right g w) (rw (walk_reads_lem g w asked) at pages))
    where
      walking : List ℕ → Walked
      walking x = walk_on g x asked (bottom g) 0 (head_step g x asked)

      below : List ℕ → List Line
      below x = lines_on g x asked (bottom g) 0 (head_step g x asked)

      by : (b : Bool) → SamePages g w v 1 (cond b (line_pages (below w)) []) →
          (cond b (walking w) (Err (no_place Directory)) ≡ cond b (walking v) (Err (no_place Directory))) × (cond b (trail g w asked) [] ≡ cond b (trail g v asked) [])
      by true same =
          let step = same_head_step w v directory g four head asked in
          let rest = same_walk_on (bottom g) 0 (head_step g w asked) same in (
            rest.0 ∙ ap (walk_on g v asked (bottom g) 0) step,
            both (same_head_line w v directory g four head asked) (rest.1 ∙ ap (lines_on g v asked (bottom g) 0) step),
          )
      by false same = (refl, refl)
