-- A cascade of merges: each merge hands on what a cascade keeps, the rooms suffice all the way, and where it may end the state is good.
-- Assumes nothing.
use Prim.Native.Nat.{ℕ, zero, suc, ◌≤◌, ◌<◌}
use native.Mathlib.Omega.{arith}
use Rattle.std.specs.Prelude.{◌≡◌, refl, Bool, true, false, length, ltb, eqb}
use Rattle.std.proofs.Common.{sym, subst, ◌∙◌, ltb-true, ltb-false, leb-true, eqb-true, lt-ltb, le-leb}
use Rattle.std.proofs.lemmas.Bool.{eqb-false}
use Rattle.geometry.specs.declared.Geometry.{Geometry}
use Rattle.geometry.specs.Geometry.{InRange, bottom, capacity, most, total}
use Rattle.slot.specs.declared.Pair.{Pair}
use Rattle.rules.specs.Tree.{Tree, level}
use Rattle.rules.specs.Finding.{held}
use Rattle.rules.specs.Merging.{State, join, merge}
use Rattle.rules.specs.Sound.{within_capacity}
use Rattle.rules.specs.Level.{slots_of}
use Rattle.rules.specs.Good.{Good, Cascading, Roomy, Fits}
use Rattle.good.proofs.Room.{roomy_fits}
use Rattle.good.specs.Join.{join_length}
use Rattle.good.specs.Live.{Counted, right_counted, counted_right}
use Rattle.good.specs.Merge.{merge_length, merge_above, merge_here, merge_below, merge_fits}
use Rattle.good.proofs.Merge.{merge_ascends, merge_alternates, merge_counted, merge_holds, merge_last}
use Rattle.good.specs.Within.{within_upper, within_bottom, head_few, empty_within}
use Rattle.good.specs.Cascade.{above, there, below, Stands, merged_state, stands}

-- No pair is lost or won by it.
pub merge_held : (g : Geometry) (i : ℕ) (s : State) → Cascading g i s → i < bottom g → (p : Pair) → held p (merge i s.tree) ≡ held p s.tree
merge_held g i s c h p = merge_holds i s.tree (omega (arith, h, c.levels)) c.above c.ascends c.alternates p

module _ (g : Geometry) (fit : InRange g) where
  -- The cascade goes on from there.
  pub merged_cascading : (i : ℕ) (s : State) → Cascading g i s → i < bottom g → Cascading g (suc i) (merged_state i s)
  unfolding total
  merged_cascading i s c h = record {
    levels = merge_length i t inside ∙ c.levels;
    reaches = omega (arith, h);
    ascends = merge_ascends i t inside c.above c.ascends c.alternates;
    above = merge_above i t;
    here = λ k. rw (merge_here i t) (upper k);
    at_bottom = λ e. rw (merge_here i t) (lowest e);
    below = λ j k l. rw (merge_below i t j k) (c.below j (omega (arith, k)) l);
    alternates = merge_alternates i t inside c.above c.ascends c.alternates;
    counted = counted_right s.live (merge i t) (merge_counted i t inside c.above c.ascends c.alternates s.live counts);
    few = c.few;
    fit = merge_fits i t c.fit;
  }
    where
      t : Tree
      t = s.tree

      inside : suc i < length t
      inside = omega (arith, h, c.levels)

      counts : Counted s.live t
      counts = right_counted s.live t c.counted

      upper : suc i < bottom g → length (join (level i t) (level (suc i) t)) ≤ total g (suc i)
      upper k =
          let n = length (level (suc i) t) in
          let few : n < capacity g (suc i) = ltb-true n (capacity g (suc i)) (sym (within_upper g (suc i) n k) ∙ c.below (suc i) (omega arith) (omega (arith, k))) in
          omega (arith, join_length (level i t) (level (suc i) t), c.here h, few)

      lowest : suc i ≡ bottom g → length (join (level i t) (level (suc i) t)) ≤ most g
      lowest e = omega (arith, c.few, merge_last i t inside c.above c.ascends c.alternates s.live counts (omega (arith, c.levels, e, fit.levels_least)))

  -- On its way every level keeps to its room.
  pub capacity_total : (i : ℕ) → capacity g i ≤ total g i
  unfolding total
  capacity_total zero = omega arith
  capacity_total (suc i) = omega arith

  cascading_roomy : (i : ℕ) (s : State) → Cascading g i s → Roomy g s.tree
  cascading_roomy i s c = record { levels = c.levels; upper = λ j h. upper j h (stands j i); lowest = lowest (stands (bottom g) i) }
    where
      size : ℕ → ℕ
      size j = length (level j s.tree)

      upper : (j : ℕ) → j < bottom g → Stands j i → size j ≤ total g j
      upper j h (above k) = rw (c.above j k) (omega arith)
      upper j h (there e) = rw e (c.here (omega (arith, h, e)))
      upper j h (below k) =
          let few : size j < capacity g j = ltb-true (size j) (capacity g j) (sym (within_upper g j (size j) h) ∙ c.below j k (omega (arith, h))) in
          omega (arith, few, capacity_total j)

      lowest : Stands (bottom g) i → size (bottom g) ≤ most g
      lowest (above k) = absurd (omega (arith, k, c.reaches))
      lowest (there e) = subst (λ (j : ℕ). size j ≤ most g) (sym e) (c.at_bottom (sym e))
      lowest (below k) =
          leb-true (size (bottom g)) (most g) (sym (within_bottom g (bottom g) (size (bottom g)) refl) ∙ c.below (bottom g) k (omega (arith, fit.levels_least)))

  -- It ends at the bottom, or at a level that has fewer entries than its capacity: the state is good.
  module _ (i : ℕ) (s : State) (c : Cascading g i s) where
    pub settled_good : within_capacity g i (length (level i s.tree)) ≡ true → Good g s
    settled_good w = record {
      levels = c.levels;
      ascends = c.ascends;
      within = λ j h. within j h (stands j i);
      alternates = c.alternates;
      counted = c.counted;
      few = c.few;
      fit = c.fit;
    }
      where
        within : (j : ℕ) → j < g.levels → Stands j i → within_capacity g j (length (level j s.tree)) ≡ true
        within j h (above k) = rw (c.above j k) (empty_within g fit j)
        within j h (there e) = rw e w
        within j h (below k) = c.below j k h

    pub settled_upper : i < bottom g → length (level i s.tree) < capacity g i → Good g s
    settled_upper h n = settled_good (within_upper g i (length (level i s.tree)) h ∙ lt-ltb (length (level i s.tree)) (capacity g i) n)

    pub settled_bottom : i ≡ bottom g → Good g s
    settled_bottom e = settled_good (within_bottom g i (length (level i s.tree)) e ∙ le-leb (length (level i s.tree)) (most g) (c.at_bottom e))

  -- A good state is one where a cascade may begin, so it keeps to its rooms.
  pub good_cascading : (s : State) → Good g s → Cascading g 0 s
  unfolding total
  good_cascading s good = record {
    levels = good.levels;
    reaches = omega (arith, fit.levels_least);
    ascends = good.ascends;
    above = λ j h. absurd (omega (arith, h));
    here = λ h. omega (arith, head_few g fit s good);
    at_bottom = λ e. absurd (omega (arith, e, fit.levels_least));
    below = λ j h l. good.within j l;
    alternates = good.alternates;
    counted = good.counted;
    few = good.few;
    fit = good.fit;
  }

  -- So the slots fit their rooms, wherever a cascade has come to, and in a good state.
  pub cascading_fits : (i : ℕ) (s : State) → Cascading g i s → Fits g (slots_of s.tree)
  cascading_fits i s c = roomy_fits g fit s.tree (cascading_roomy i s c) c.fit

  pub good_fits : (s : State) → Good g s → Fits g (slots_of s.tree)
  good_fits s good = cascading_fits 0 s (good_cascading s good)
