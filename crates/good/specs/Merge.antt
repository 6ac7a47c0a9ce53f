-- A level merged into the next, all above it being empty: its levels, and that the tree still ascends, fits, alternates, counts as many
-- and holds what it held. Assumes nothing.
use Prim.Native.Nat.{ℕ, zero, suc, ◌+◌, ◌-◌, ◌<◌}
use native.Mathlib.Omega.{arith}
use Rattle.std.specs.Prelude.{◌≡◌, Bool}
use Rattle.std.proofs.Math.Path.{refl, sym, ap}
use Rattle.std.proofs.Common.{subst, ◌∙◌, drop_of_length-le}
use Rattle.std.proofs.Math.Bool.{true, false}
use mathlib.Core.List.{[], ◌∷◌, ◌++◌}
use Rattle.std.proofs.Math.ListN.{length, drop, replicate, length-append, length-replicate, length-drop, get_or-replicate, get_or-append}
use Rattle.std.proofs.Math.Seq.{get_or_at, get_or-drop, get_or-append-add}
use Rattle.laws.specs.Lists.{all, all_cons}
use Rattle.laws.specs.Flat.{all_first, all_rest}
use Rattle.slot.specs.declared.Pair.{Pair}
use Rattle.rules.specs.Tree.{Level, Tree, level}
use Rattle.rules.specs.Finding.{held}
use Rattle.rules.specs.Merging.{join, merge}
use Rattle.rules.specs.Sound.{ascending, alternating, count_kind}
use Rattle.rules.specs.Good.{LevelFits, TreeFits}
use Rattle.entries.specs.Ascending.{From, from_ascending}
use Rattle.good.specs.Join.{join_ascends, join_fits}
use Rattle.good.specs.Alternate.{Over, alternating_over, alternating_below, over_alternating, join_over, joined_held}
use Rattle.good.specs.Live.{Counted, lone_live}
use Rattle.good.specs.Under.{held_under, ascending_under, alternating_under, count_under, fits_under, empties_first}

-- The levels of the merged tree.
module _ (i : ℕ) (t : Tree) where
  pub merge_length : suc i < length t → length (merge i t) ≡ length t
  unfolding merge
  merge_length h =
      length-append (replicate (suc i) []) (join (level i t) (level (suc i) t) ∷ drop (suc (suc i)) t) ∙
      rw (length-replicate {A = Level} (suc i) [], length-drop (suc (suc i)) t) (omega arith)

  pub merge_above : (j : ℕ) → j < suc i → level j (merge i t) ≡ []
  unfolding merge
  merge_above j h =
      get_or-append (replicate (suc i) []) (join (level i t) (level (suc i) t) ∷ drop (suc (suc i)) t) [] j (rw (length-replicate {A = Level} (suc i) []) h) ∙
      get_or-replicate (suc i) j [] [] h

  pub merge_here : level (suc i) (merge i t) ≡ join (level i t) (level (suc i) t)
  unfolding merge
  merge_here = get_or_at (replicate (suc i) []) (join (level i t) (level (suc i) t)) (drop (suc (suc i)) t) [] (suc i) (length-replicate (suc i) [])

  pub merge_below : (j : ℕ) → suc i < j → level j (merge i t) ≡ level j t
  unfolding merge
  merge_below j h =
      let r : Tree = replicate (suc i) [] in
      let k = j - suc (suc i) in
      let q : j ≡ length r + suc k = omega (arith, length-replicate {A = Level} (suc i) []) in
      let d : suc (suc i) + k ≡ j = omega arith in
      ap (λ (n : ℕ). level n (merge i t)) q ∙ get_or-append-add r (join (level i t) (level (suc i) t) ∷ drop (suc (suc i)) t) (suc k) [] ∙
      get_or-drop (suc (suc i)) t k [] ∙ ap (λ (n : ℕ). level n t) d

-- The pairs of a merged tree are words.
level_fits : (t : Tree) (i : ℕ) → TreeFits t → LevelFits (level i t)
unfolding TreeFits LevelFits
level_fits [] i a = tt
level_fits (es ∷ t) zero a = a.0
level_fits (es ∷ t) (suc i) a = level_fits t i a.1

drop_fits : (i : ℕ) (t : Tree) → TreeFits t → TreeFits (drop i t)
unfolding TreeFits
drop_fits zero t a = a
drop_fits (suc i) [] a = tt
drop_fits (suc i) (es ∷ t) a = drop_fits i t a.1

pub merge_fits : (i : ℕ) (t : Tree) → TreeFits t → TreeFits (merge i t)
unfolding merge TreeFits
merge_fits i t a =
    fits_under (suc i) (join (level i t) (level (suc i) t) ∷ drop (suc (suc i)) t)
    (join_fits (level i t) (level (suc i) t) (level_fits t i a) (level_fits t (suc i) a), drop_fits (suc (suc i)) t a)

-- Two neighbouring levels over the rest, each ascending and alternating with those below.
pub record Neighbours (es fs : Level) (t : Tree) : Type 0 where
  pub upper : From 0 es
  pub lower : From 0 fs
  pub over : Over es (fs ∷ t)
  pub next : Over fs t
  pub below : alternating t ≡ true

pub neighbours : (es fs : Level) (t : Tree) → all ascending (es ∷ fs ∷ t) ≡ true → alternating (es ∷ fs ∷ t) ≡ true → Neighbours es fs t
neighbours es fs t a o =
    let below = alternating_below es (fs ∷ t) o in
    record {
      upper = from_ascending es (all_first ascending es (fs ∷ t) a);
      lower = from_ascending fs (all_first ascending fs t (all_rest ascending es (fs ∷ t) a));
      over = alternating_over es (fs ∷ t) o;
      next = alternating_over fs t below;
      below = alternating_below fs t below;
    }
