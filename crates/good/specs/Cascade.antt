-- A cascade of merges: each merge hands on what a cascade keeps, the rooms suffice all the way, and where it may end the state is good.
-- Assumes nothing.
use Prim.Native.Nat.{ℕ, zero, suc, ◌≤◌, ◌<◌}
use native.Mathlib.Omega.{arith}
use Rattle.std.specs.Prelude.{◌≡◌, refl, Bool, true, false, length, ltb, eqb}
use Rattle.std.proofs.Common.{sym, subst, ◌∙◌, ltb-true, ltb-false, leb-true, eqb-true, lt-ltb, le-leb}
use Rattle.std.proofs.lemmas.Bool.{eqb-false}
use Rattle.geometry.specs.declared.Geometry.{Geometry}
use Rattle.geometry.specs.Geometry.{InRange, bottom, capacity, most, total}
use Rattle.slot.specs.declared.Pair.{Pair}
use Rattle.rules.specs.Tree.{Tree, level}
use Rattle.rules.specs.Finding.{held}
use Rattle.rules.specs.Merging.{State, join, merge}
use Rattle.rules.specs.Sound.{within_capacity}
use Rattle.rules.specs.Level.{slots_of}
use Rattle.rules.specs.Good.{Good, Cascading, Roomy, Fits}
use Rattle.good.specs.Join.{join_length}
use Rattle.good.specs.Live.{Counted, right_counted, counted_right}
use Rattle.good.specs.Merge.{merge_length, merge_above, merge_here, merge_below, merge_fits}
use Rattle.good.specs.Within.{within_upper, within_bottom, head_few, empty_within}

-- A level above another, that level, or one below it.
pub data Stands (j i : ℕ) : Type 0 where
  above : j < i → Stands j i
  there : j ≡ i → Stands j i
  below : i < j → Stands j i

pub stands : (j i : ℕ) → Stands j i
stands j i = first (ltb j i) refl
  where
    next : i ≤ j → (b : Bool) → eqb j i ≡ b → Stands j i
    next h true e = there (eqb-true j i e)
    next h false e =
        let n : ¬ (j ≡ i) = eqb-false j i e in
        below (omega arith)

    first : (b : Bool) → ltb j i ≡ b → Stands j i
    first true e = above (ltb-true j i e)
    first false e = next (ltb-false j i e) (eqb j i) refl

-- The state after a merge of level i.
abbrev pub merged_state : ℕ → State → State
merged_state i s = record { live = s.live; tree = merge i s.tree }
