-- The walk from the head down: in the head, and then in one page of each lower level. Assumes nothing.
use Prim.Native.Nat.{ℕ, zero, suc, ◌+◌, ◌-◌, ◌≤◌, ◌<◌}
use native.Mathlib.Omega.{arith}
use Rattle.std.specs.Prelude.{◌≡◌, Bool, cond, List, Err}
use Rattle.std.proofs.Math.Path.{refl}
use Rattle.std.proofs.Common.{sym, ◌∙◌}
use Rattle.std.proofs.Math.Bool.{true, false}
use Rattle.geometry.specs.declared.Geometry.{Geometry}
use Rattle.geometry.specs.Geometry.{bottom}
use Rattle.slot.specs.declared.Pair.{Pair}
use Rattle.slot.specs.declared.Pid.{Pid}
use Rattle.rules.specs.Sound.{directory_right, head_right}
use Rattle.rules.specs.Faults.{head_fault}
use Rattle.fault.specs.declared.Fault.{Fault}
use Rattle.fault.specs.declared.Part.TheVariants.{Directory}
use Rattle.fault.specs.Numbers.{no_place}
use Rattle.walk.specs.Stepping.{Step}
use Rattle.walk.specs.Stepping.{Decided, Follow, Nothing, Broken}
use Rattle.walk.specs.Walked.{Walked, found}
use Rattle.walk.specs.Step.{head_step, page_step}

-- What level i told, with n levels below it. Where none decides, the level given is l.
unfoldable pub walk_on : Geometry → List ℕ → Pair → ℕ → ℕ → Step → Walked
walk_on g w asked zero i (Decided held) = found held i
walk_on g w asked zero i (Follow page) = found false g.levels
walk_on g w asked zero i Nothing = found false g.levels
walk_on g w asked zero i (Broken f) = Err f
walk_on g w asked (suc n) i (Decided held) = found held i
walk_on g w asked (suc n) i (Follow page) = walk_on g w asked n (suc i) (page_step g w asked (suc i) page.0)
walk_on g w asked (suc n) i Nothing = found false g.levels
walk_on g w asked (suc n) i (Broken f) = Err f

-- The directory is tested first.
unfoldable pub walked : Geometry → List ℕ → Pair → Walked
walked g w asked = cond (directory_right g w) (walk_on g w asked (bottom g) 0 (head_step g w asked)) (Err (no_place Directory))

-- The walk from a page of level i on.
unfoldable pub walk_from : Geometry → List ℕ → Pair → ℕ → ℕ → Walked
walk_from g w asked i page = walk_on g w asked (g.levels - i) (i - 1) (Follow (record { 0 = page }))

-- What each level tells, and where the walk goes on.
module _ (g : Geometry) (w : List ℕ) (asked : Pair) where
  pub walk_decided : (n i : ℕ) (held : Bool) → walk_on g w asked n i (Decided held) ≡ found held i
  unfolding walk_on
  walk_decided zero i held = refl
  walk_decided (suc n) i held = refl

  pub walk_nothing : (n i : ℕ) → walk_on g w asked n i Nothing ≡ found false g.levels
  unfolding walk_on
  walk_nothing zero i = refl
  walk_nothing (suc n) i = refl

  pub walk_broken : (n i : ℕ) (f : Fault) → walk_on g w asked n i (Broken f) ≡ Err f
  unfolding walk_on
  walk_broken zero i f = refl
  walk_broken (suc n) i f = refl

  pub walk_into : (i page : ℕ) → 1 ≤ i → i < g.levels →
      walk_from g w asked i page ≡ walk_on g w asked (g.levels - (i + 1)) i (page_step g w asked i page)
  unfolding walk_from walk_on
  walk_into i page k h =
      let n : g.levels - i ≡ suc (g.levels - (i + 1)) = omega arith in
      let s : suc (i - 1) ≡ i = omega arith in
      rw (n, walk_on, s)

  pub walk_follows : (i : ℕ) (page : Pid) → walk_on g w asked (g.levels - (i + 1)) i (Follow page) ≡ walk_from g w asked (i + 1) page.0
  unfolding walk_from
  walk_follows i page =
      let s : i + 1 - 1 ≡ i = omega arith in
      rw s

  pub walk_ends : (i page : ℕ) → g.levels ≤ i → walk_from g w asked i page ≡ found false g.levels
  unfolding walk_from walk_on
  walk_ends i page h =
      let n : g.levels - i ≡ 0 = omega arith in
      rw n

-- A walk that finds an answer has passed the tests of the directory and of the head.
module _ (g : Geometry) (w : List ℕ) (asked : Pair) (held : Bool) (level : ℕ) (finds : walked g w asked ≡ found held level) where
  not_faulty : (f : Fault) → ◌≡◌ {A = Walked} (Err f) (found held level) → ⊥
  not_faulty f e = let z : ◌≡◌ {A = ℕ} 0 1 = cc in omega arith

  pub found_directory : directory_right g w ≡ true
  unfolding walked
  found_directory = by_test (directory_right g w) refl
    where
      by_test : (b : Bool) → directory_right g w ≡ b → b ≡ true
      by_test true e = refl
      by_test false e = absurd (not_faulty (no_place Directory) (rw e at finds))

  pub found_head : head_right g w ≡ true
  unfolding walked head_step
  found_head = by_test (head_right g w) refl
    where
      by_test : (b : Bool) → head_right g w ≡ b → b ≡ true
      by_test true e = refl
      by_test false e = absurd (not_faulty (head_fault g w) (sym (walk_broken g w asked (bottom g) 0 (head_fault g w)) ∙ rw (found_directory, e) at finds))
