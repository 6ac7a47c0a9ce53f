-- A level merged into the next, all above it being empty: its levels, and that the tree still ascends, fits, alternates, counts as many
-- and holds what it held. Assumes nothing.
use Prim.Native.Nat.{ℕ, zero, suc, ◌+◌, ◌-◌, ◌<◌}
use native.Mathlib.Omega.{arith}
use Rattle.std.specs.Prelude.{◌≡◌, Bool}
use Rattle.std.proofs.Math.Path.{refl, sym, ap}
use Rattle.std.proofs.Common.{subst, ◌∙◌, drop_of_length-le}
use Rattle.std.proofs.Math.Bool.{true, false}
use mathlib.Core.List.{[], ◌∷◌, ◌++◌}
use Rattle.std.proofs.Math.ListN.{length, drop, replicate, length-append, length-replicate, length-drop, get_or-replicate, get_or-append}
use Rattle.std.proofs.Math.Seq.{get_or_at, get_or-drop, get_or-append-add}
use Rattle.laws.specs.Lists.{all, all_cons}
use Rattle.laws.specs.Flat.{all_first, all_rest}
use Rattle.slot.specs.declared.Pair.{Pair}
use Rattle.rules.specs.Tree.{Level, Tree, level}
use Rattle.rules.specs.Finding.{held}
use Rattle.rules.specs.Merging.{join, merge}
use Rattle.rules.specs.Sound.{ascending, alternating, count_kind}
use Rattle.rules.specs.Good.{LevelFits, TreeFits}
use Rattle.entries.specs.Ascending.{From, from_ascending}
use Rattle.good.specs.Join.{join_ascends, join_fits}
use Rattle.good.specs.Alternate.{Over, alternating_over, alternating_below, over_alternating, join_over, joined_held}
use Rattle.good.specs.Live.{Counted, lone_live}
use Rattle.good.proofs.Live.{joined_counted}
use Rattle.good.specs.Under.{held_under, ascending_under, alternating_under, count_under, fits_under, empties_first}
use Rattle.good.specs.Merge.{Neighbours, neighbours}

-- What the merge keeps.
module _ (i : ℕ) (t : Tree) (h : suc i < length t) (above : (j : ℕ) → j < i → level j t ≡ []) (a : all ascending t ≡ true) (o : alternating t ≡ true) where
  abbrev es : Level
  es = level i t

  abbrev fs : Level
  fs = level (suc i) t

  abbrev u : Tree
  u = drop (suc (suc i)) t

  parts : t ≡ replicate i [] ++ es ∷ fs ∷ u
  parts = empties_first i t h above

  ascends : all ascending (es ∷ fs ∷ u) ≡ true
  ascends = sym (ap (all ascending) parts ∙ ascending_under i (es ∷ fs ∷ u)) ∙ a

  two : Neighbours es fs u
  two = neighbours es fs u ascends (sym (ap alternating parts ∙ alternating_under i (es ∷ fs ∷ u)) ∙ o)

  pub merge_ascends : all ascending (merge i t) ≡ true
  unfolding merge
  merge_ascends =
      let lower = all_rest ascending es (fs ∷ u) ascends in
      let joined = join_ascends es fs (all_first ascending es (fs ∷ u) ascends) (all_first ascending fs u lower) in
      ascending_under (suc i) (join es fs ∷ u) ∙ rw (all_cons ascending (join es fs) u, joined, all_rest ascending fs u lower) refl

  pub merge_alternates : alternating (merge i t) ≡ true
  unfolding merge
  merge_alternates =
      alternating_under (suc i) (join es fs ∷ u) ∙
      over_alternating (join es fs) u (join_over 0 0 es fs u two.upper two.lower two.over two.next) two.below

  joined : (live : ℕ) → Counted live t → Counted live (join es fs ∷ u)
  unfolding Counted
  joined live c =
      let parted : (b : Bool) → count_kind b t ≡ count_kind b (es ∷ fs ∷ u) = λ b. ap (count_kind b) parts ∙ count_under b i (es ∷ fs ∷ u) in
      joined_counted live 0 0 es fs u two.upper two.lower two.over (omega (arith, c, parted true, parted false))

  pub merge_counted : (live : ℕ) → Counted live t → Counted live (merge i t)
  unfolding Counted merge
  merge_counted live c = omega (arith, count_under true (suc i) (join es fs ∷ u), count_under false (suc i) (join es fs ∷ u), joined live c)

  pub merge_holds : (p : Pair) → held p (merge i t) ≡ held p t
  unfolding merge
  merge_holds p =
      held_under p (suc i) (join es fs ∷ u) ∙ joined_held p 0 0 es fs u two.upper two.lower two.over two.next ∙
      sym (ap (held p) parts ∙ held_under p i (es ∷ fs ∷ u))

  -- Merged into the bottom, the entries are the pairs held.
  pub merge_last : (live : ℕ) → Counted live t → length t ≡ suc (suc i) → length (join es fs) ≡ live
  merge_last live c l =
      let none : u ≡ [] = drop_of_length-le t {i = suc (suc i)} (omega (arith, l)) in
      let over : Over (join es fs) [] = subst (Over (join es fs)) none (join_over 0 0 es fs u two.upper two.lower two.over two.next) in
      sym (lone_live live (join es fs) over (subst (λ (r : Tree). Counted live (join es fs ∷ r)) none (joined live c)))
