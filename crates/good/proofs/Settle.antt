-- Settling: the whole cascade, which ends in a good state that holds what it held. Assumes nothing.
use Prim.Native.Nat.{ℕ, zero, suc, ◌+◌, ◌≤◌, ◌<◌}
use native.Mathlib.Omega.{arith}
use Rattle.std.specs.Prelude.{◌≡◌, Bool, [], ◌++◌, length}
use Rattle.std.proofs.Math.Path.{refl}
use Rattle.std.proofs.Common.{◌∙◌, ltb-true}
use Rattle.std.proofs.Math.Bool.{true, false}
use Rattle.std.proofs.Math.Dec.{ltb}
use Rattle.geometry.specs.declared.Geometry.{Geometry}
use Rattle.geometry.specs.Geometry.{InRange, bottom, capacity}
use Rattle.slot.specs.declared.Pair.{Pair}
use Rattle.rules.specs.Tree.{Tree, level}
use Rattle.rules.specs.Level.{slots_of}
use Rattle.rules.specs.Finding.{held}
use Rattle.rules.specs.Merging.{State, merge, pages_written, settle}
use Rattle.rules.specs.Good.{Good, Cascading}
use Rattle.good.specs.Cascade.{merged_state}
use Rattle.good.proofs.Cascade.{merged_cascading, settled_upper, settled_bottom, merge_held}
use Rattle.good.specs.Settle.{settle_sinks, settle_stays, settled_state}

module _ (g : Geometry) (fit : InRange g) where
  pub settle_good : (n i : ℕ) (s : State) → Cascading g i s → n + i ≡ bottom g → Good g (settled_state g n i s)
  unfolding settle
  settle_good zero i s c e = settled_bottom g fit i s c (omega (arith, e))
  settle_good (suc n) i s c e = told (ltb (length (level i s.tree)) (capacity g i)) refl (settle_good n (suc i) (merged_state i s))
    where
      told : (b : Bool) → ltb (length (level i s.tree)) (capacity g i) ≡ b →
          (Cascading g (suc i) (merged_state i s) → n + suc i ≡ bottom g → Good g (settled_state g n (suc i) (merged_state i s))) → Good g (settled_state g (suc n) i s)
      told true h rest =
          rw (settle_stays g n i s.tree h) (settled_upper g fit i s c (omega (arith, e)) (ltb-true (length (level i s.tree)) (capacity g i) h))
      told false h rest = rw (settle_sinks g n i s.tree h) (rest (merged_cascading g fit i s c (omega (arith, e))) (omega (arith, e)))

  -- No pair is lost or won on the way.
  pub settle_held : (n i : ℕ) (s : State) → Cascading g i s → n + i ≡ bottom g → (p : Pair) → held p (settle g n i s.tree).tree ≡ held p s.tree
  unfolding settle
  settle_held zero i s c e p = refl
  settle_held (suc n) i s c e p = told (ltb (length (level i s.tree)) (capacity g i)) refl (settle_held n (suc i) (merged_state i s))
    where
      told : (b : Bool) → ltb (length (level i s.tree)) (capacity g i) ≡ b →
          (Cascading g (suc i) (merged_state i s) → n + suc i ≡ bottom g → (q : Pair) → held q (settle g n (suc i) (merge i s.tree)).tree ≡ held q (merge i s.tree)) →
          held p (settle g (suc n) i s.tree).tree ≡ held p s.tree
      told true h rest = rw (settle_stays g n i s.tree h) refl
      told false h rest =
          let k : i < bottom g = omega (arith, e) in
          rw (settle_sinks g n i s.tree h) (rest (merged_cascading g fit i s c k) (omega (arith, e)) p ∙ merge_held g i s c k p)
