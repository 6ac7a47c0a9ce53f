-- A good state with a pair's entry toggled into its head: a cascade may begin there, and of all pairs just that one is held or not as the
-- entry says. Assumes nothing.
use Prim.Native.Nat.{ℕ, zero, suc, ◌+◌, ◌-◌, ◌≤◌, ◌<◌}
use native.Mathlib.Omega.{arith}
use Rattle.std.specs.Prelude.{◌≡◌, Bool, not, cond, length}
use Rattle.std.proofs.Math.Path.{refl}
use Rattle.std.proofs.Common.{sym, ◌∙◌}
use Rattle.std.proofs.Math.Bool.{true, false}
use mathlib.Core.List.{[], ◌∷◌}
use Rattle.laws.specs.Lists.{all_cons}
use Rattle.laws.specs.Flat.{all_first, all_rest}
use Rattle.geometry.specs.declared.Geometry.{Geometry}
use Rattle.geometry.specs.Geometry.{InRange, most, total}
use Rattle.slot.specs.declared.Pair.{Pair}
use Rattle.slot.specs.Pair.{same, Words}
use Rattle.slot.specs.Order.{same_level}
use Rattle.rules.specs.Tree.{Entry, Level, Tree, level}
use Rattle.rules.specs.Finding.{Met, absent, met, find, held}
use Rattle.rules.specs.Merging.{State, toggle, toggle_head}
use Rattle.rules.specs.Sound.{ascending, within_capacity}
use Rattle.rules.specs.Good.{Good, Cascading, TreeFits}
use Rattle.entries.specs.Ascending.{From, levels_ascend, from_ascending, all_from_ascending, find_here, held_met, held_absent, held_agree}
use Rattle.entries.specs.Counts.{kind_count, count_none, count_normal, count_filter, count_first, count_levels}
use Rattle.good.specs.Toggle.{toggle_ascends, toggle_fits, toggle_length, cancel, find_other, find_toggle}
use Rattle.good.specs.Alternate.{Over, alternating_over, alternating_below, over_alternating, held_rank, turned, met_over, toggle_over}
use Rattle.good.specs.Live.{Even, toggle_even, Counted, right_counted, counted_right}
use Rattle.good.proofs.Live.{held_some}
use Rattle.good.specs.Within.{head_few}
use Rattle.good.specs.Edit.{entry, head_ascends, head_over, head_rises, live_after, toggled_state}

-- A pair that is held is among the live ones.
pub held_live : (g : Geometry) (s : State) (p : Pair) → Good g s → held p s.tree ≡ true → 1 ≤ s.live
unfolding levels_ascend
held_live g s p good h =
    held_some s.live s.tree p (all_from_ascending s.tree good.ascends) good.alternates (right_counted s.live s.tree good.counted) h

-- A head over the levels below, and the entry of a pair that is held just if the entry is a filter.
module _ (p : Pair) (b : Bool) (head : Level) (lower : Tree) (a : From 0 head) (o : Over head lower) (h : held p (head ∷ lower) ≡ not b) where
  toggled_over : Over (toggle (entry p b) head) lower
  toggled_over = toggle_over 0 (entry p b) head lower a o (λ f. turned (held p lower) b (sym (held_absent p head lower f) ∙ h))

  toggled_even : Even (toggle (entry p b) head) (entry p b ∷ head)
  toggled_even = toggle_even (entry p b) head (λ c f. sym (held_met p head lower c f) ∙ h)

  toggled_held : (q : Pair) → held q (toggle (entry p b) head ∷ lower) ≡ cond (same q p) b (held q (head ∷ lower))
  unfolding cancel
  toggled_held q = told (same q p) refl
    where
      found : (m n : Met) → find q (entry p b ∷ []) ≡ m → find q head ≡ n → find q (toggle (entry p b) head) ≡ cancel m n
      found m n x y = find_toggle q 0 (entry p b) head a ∙ rw (x, y) refl

      own : same q p ≡ true → (m : Met) → find q head ≡ m → held q (toggle (entry p b) head ∷ lower) ≡ b
      own s absent f = held_met q (toggle (entry p b) head) lower b (found (met b) absent (find_here q (entry p b) [] s) f)
      own s (met c) f =
          let top : c ≡ not b = sym (held_met q head lower c f) ∙ held_rank q p (head ∷ lower) (same_level q p s) ∙ h in
          held_absent q (toggle (entry p b) head) lower (found (met b) (met c) (find_here q (entry p b) [] s) f) ∙
          turned c (held q lower) (met_over q head lower c o f) ∙ sym (turned c b top)

      told : (c : Bool) → same q p ≡ c → held q (toggle (entry p b) head ∷ lower) ≡ cond c b (held q (head ∷ lower))
      told true s = own s (find q head) refl
      told false s = held_agree q (toggle (entry p b) head) head lower lower (found absent (find q head) (find_other q (entry p b) s) refl) refl

-- The same of a good state. Live is the number that the entry makes it.
module _ (g : Geometry) (fit : InRange g) (p : Pair) (b : Bool) where
  pub toggled_cascading : (n m : ℕ) (t : Tree) → Good g (record { live = n; tree = t }) → Words p → held p t ≡ not b →
      Counted m (toggle_head (entry p b) t) → m ≤ most g → Cascading g 0 (record { live = m; tree = toggle_head (entry p b) t })
  unfolding toggle_head TreeFits total
  toggled_cascading n m [] good w h c l = absurd (omega (arith, good.levels, fit.levels_least))
  toggled_cascading n m (head ∷ lower) good w h c l = record {
    levels = good.levels;
    reaches = omega (arith, fit.levels_least);
    ascends =
        rw (
          all_cons ascending (toggle (entry p b) head) lower,
          toggle_ascends (entry p b) head (head_ascends g n head lower good),
          all_rest ascending head lower good.ascends,
        ) refl;
    above = λ j k. absurd (omega (arith, k));
    here = λ k. omega (arith, toggle_length (entry p b) head, head_few g fit (record { live = n; tree = head ∷ lower }) good);
    at_bottom = λ e. absurd (omega (arith, e, fit.levels_least));
    below = below;
    alternates = over_alternating (toggle (entry p b) head) lower (toggled_over p b head lower (head_rises g n head lower good) (head_over g n head lower good) h) (alternating_below head lower good.alternates);
    counted = counted_right m (toggle (entry p b) head ∷ lower) c;
    few = l;
    fit = (toggle_fits (entry p b) head w good.fit.0, good.fit.1);
  }
    where
      below : (j : ℕ) → 0 < j → j < g.levels → within_capacity g j (length (level j (toggle (entry p b) head ∷ lower))) ≡ true
      below zero k l = absurd (omega (arith, k))
      below (suc j) k l = good.within (suc j) l

  pub toggled_holds : (n : ℕ) (t : Tree) → Good g (record { live = n; tree = t }) → held p t ≡ not b → (q : Pair) →
      held q (toggle_head (entry p b) t) ≡ cond (same q p) b (held q t)
  unfolding toggle_head
  toggled_holds n [] good h q = absurd (omega (arith, good.levels, fit.levels_least))
  toggled_holds n (head ∷ lower) good h q =
      toggled_held p b head lower (head_rises g n head lower good) (head_over g n head lower good) h q

-- A put counts one more, a drop one less.
module _ (g : Geometry) (fit : InRange g) (p : Pair) where
  toggled_counts : (n m : ℕ) (b : Bool) (t : Tree) → Good g (record { live = n; tree = t }) → held p t ≡ not b →
      m + kind_count false (entry p b ∷ []) ≡ n + kind_count true (entry p b ∷ []) → Counted m (toggle_head (entry p b) t)
  unfolding toggle_head Even Counted
  toggled_counts n m b [] good h k = absurd (omega (arith, good.levels, fit.levels_least))
  toggled_counts n m b (head ∷ lower) good h k =
      let e = entry p b in
      let even : Even (toggle e head) (e ∷ head) = toggled_even p b head lower (head_rises g n head lower good) (head_over g n head lower good) h in
      let counts : Counted n (head ∷ lower) = right_counted n (head ∷ lower) good.counted in
      omega (
        arith,
        k,
        even,
        counts,
        count_levels true head lower,
        count_levels false head lower,
        count_levels true (toggle e head) lower,
        count_levels false (toggle e head) lower,
        count_first true e head,
        count_first false e head,
      )

  pub put_cascading : (s : State) → Good g s → Words p → held p s.tree ≡ false → s.live < most g →
      Cascading g 0 (record { live = s.live + 1; tree = toggle_head (entry p true) s.tree })
  put_cascading s good w h l =
      let one = count_normal (entry p true) [] refl in
      toggled_cascading g fit p true s.live (s.live + 1) s.tree good w h
      (toggled_counts s.live (s.live + 1) true s.tree good h (omega (arith, one.0, one.1, count_none true, count_none false))) (omega (arith, l))

  pub drop_cascading : (s : State) → Good g s → Words p → held p s.tree ≡ true →
      Cascading g 0 (record { live = s.live - 1; tree = toggle_head (entry p false) s.tree })
  drop_cascading s good w h =
      let one = count_filter (entry p false) [] refl in
      toggled_cascading g fit p false s.live (s.live - 1) s.tree good w h
      (toggled_counts s.live (s.live - 1) false s.tree good h
      (omega (arith, one.0, one.1, count_none true, count_none false, held_live g s p good h))) (omega (arith, good.few))

  -- So in either case: a pair that is held just if it is dropped, and room for it if it is put.
  pub change_cascading : (b : Bool) (s : State) → Good g s → Words p → held p s.tree ≡ not b → (b ≡ true → s.live < most g) →
      Cascading g 0 (toggled_state (entry p b) s)
  unfolding live_after
  change_cascading true s good w h room = put_cascading s good w h (room refl)
  change_cascading false s good w h room = drop_cascading s good w h
