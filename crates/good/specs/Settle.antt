-- Settling: the whole cascade, which ends in a good state that holds what it held. Assumes nothing.
use Prim.Native.Nat.{ℕ, zero, suc, ◌+◌, ◌≤◌, ◌<◌}
use native.Mathlib.Omega.{arith}
use Rattle.std.specs.Prelude.{◌≡◌, Bool, [], ◌++◌, length}
use Rattle.std.proofs.Math.Path.{refl}
use Rattle.std.proofs.Common.{◌∙◌, ltb-true}
use Rattle.std.proofs.Math.Bool.{true, false}
use Rattle.std.proofs.Math.Dec.{ltb}
use Rattle.geometry.specs.declared.Geometry.{Geometry}
use Rattle.geometry.specs.Geometry.{InRange, bottom, capacity}
use Rattle.slot.specs.declared.Pair.{Pair}
use Rattle.rules.specs.Tree.{Tree, level}
use Rattle.rules.specs.Level.{slots_of}
use Rattle.rules.specs.Finding.{held}
use Rattle.rules.specs.Merging.{State, merge, pages_written, settle}
use Rattle.rules.specs.Good.{Good, Cascading}
use Rattle.good.specs.Cascade.{merged_state}

-- A level settled stays where it has fewer entries than its capacity, and is merged on otherwise.
module _ (g : Geometry) (n i : ℕ) (t : Tree) where
  pub settle_stays : ltb (length (level i t)) (capacity g i) ≡ true → settle g (suc n) i t ≡ record { tree = t; deepest = i; written = [] }
  unfolding settle
  settle_stays e = rw (e, settle) refl

  pub settle_sinks : ltb (length (level i t)) (capacity g i) ≡ false →
      settle g (suc n) i t ≡
      (let rest = settle g n (suc i) (merge i t) in
      record { tree = rest.tree; deepest = rest.deepest; written = pages_written (suc i) (slots_of (merge i t)) ++ rest.written })
  unfolding settle
  settle_sinks e = rw (e, settle) refl

-- It goes down from its level, and ends at the bottom at the latest.
module _ (g : Geometry) where
  settle_from : (n i : ℕ) (t : Tree) → i ≤ (settle g n i t).deepest
  unfolding settle
  settle_from zero i t = omega arith
  settle_from (suc n) i t = told (ltb (length (level i t)) (capacity g i)) refl (settle_from n (suc i) (merge i t))
    where
      told : (b : Bool) → ltb (length (level i t)) (capacity g i) ≡ b → suc i ≤ (settle g n (suc i) (merge i t)).deepest →
          i ≤ (settle g (suc n) i t).deepest
      told true h rest = rw (settle_stays g n i t h) (omega arith)
      told false h rest = rw (settle_sinks g n i t h) (omega (arith, rest))

  pub settle_deepest : (n i : ℕ) (t : Tree) → (settle g n i t).deepest ≤ n + i
  unfolding settle
  settle_deepest zero i t = omega arith
  settle_deepest (suc n) i t = told (ltb (length (level i t)) (capacity g i)) refl (settle_deepest n (suc i) (merge i t))
    where
      told : (b : Bool) → ltb (length (level i t)) (capacity g i) ≡ b → (settle g n (suc i) (merge i t)).deepest ≤ n + suc i →
          (settle g (suc n) i t).deepest ≤ suc n + i
      told true h rest = rw (settle_stays g n i t h) (omega arith)
      told false h rest = rw (settle_sinks g n i t h) (omega (arith, rest))

  -- A head with fewer entries than its capacity stays, and any other is merged on.
  pub head_stays : (n : ℕ) (t : Tree) → 1 ≤ n → ltb (length (level 0 t)) (capacity g 0) ≡ true →
      settle g n 0 t ≡ record { tree = t; deepest = 0; written = [] }
  head_stays zero t k h = absurd (omega arith)
  head_stays (suc n) t k h = settle_stays g n 0 t h

  pub head_merges : (n : ℕ) (t : Tree) → 1 ≤ n → ltb (length (level 0 t)) (capacity g 0) ≡ false → 1 ≤ (settle g n 0 t).deepest
  head_merges zero t k h = absurd (omega arith)
  head_merges (suc n) t k h = rw (settle_sinks g n 0 t h) (settle_from n 1 (merge 0 t))

-- The state once level i, with n levels below it, is settled.
abbrev pub settled_state : Geometry → ℕ → ℕ → State → State
settled_state g n i s = record { live = s.live; tree = (settle g n i s.tree).tree }
