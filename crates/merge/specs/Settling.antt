-- Settling a level, case by case, as the code goes: it stays, or it is merged on and the next is settled. Assumes nothing.
use Prim.Native.Nat.{ℕ, zero, suc, ◌+◌, ◌-◌, ◌<◌}
use Rattle.std.proofs.Math.Numerals.{add-one}
use native.Mathlib.Omega.{arith}
use Rattle.std.specs.Prelude.{◌≡◌, Bool, ◌&&◌, List}
use Rattle.std.proofs.Math.Path.{refl, sym}
use Rattle.std.proofs.Common.{ap, subst}
use Rattle.std.proofs.Math.Bool.{true, false, not}
use Rattle.std.proofs.Math.Dec.{ltb}
use borrow.Author.Tests.{ltb-true, ltb-false, not-true}
use Rattle.laws.specs.Tests.{and_left, and_right}
use Rattle.geometry.specs.declared.Geometry.{Geometry}
use Rattle.geometry.specs.Geometry.{bottom}
use Rattle.entries.specs.Levels.{PagesWithin}
use Rattle.merge.specs.Filling.{outcome, after, room_at, merged, merged_pages, Mergeable, settled, merged_on, Settleable}

pub settle_within : (g : Geometry) (n i : ℕ) (w : List ℕ) → Settleable g n i w → PagesWithin g w
unfolding Settleable
settle_within g zero i w s = s
settle_within g (suc n) i w s = s.0

module _ (g : Geometry) (i : ℕ) (w : List ℕ) where
  abbrev full : Bool
  full = ltb (suc i) g.levels && not (room_at g w i)

  module _ (t : full ≡ true) where
    above : suc i < g.levels
    above = ltb-true (suc i) g.levels (and_left (ltb (suc i) g.levels) (not (room_at g w i)) t)

    no_room : room_at g w i ≡ false
    no_room = not-true (room_at g w i) (and_right (ltb (suc i) g.levels) (not (room_at g w i)) t)

    one_more : bottom g - i ≡ suc (bottom g - suc i)
    one_more = omega (arith, above)

    pub full_above : suc i < g.levels
    full_above = above

    pub full_mergeable : Settleable g (bottom g - i) i w → Mergeable g i w × Settleable g (bottom g - suc i) (suc i) (merged g i w)
    unfolding Settleable
    full_mergeable s = rw (no_room, Settleable) at (subst (λ (n : ℕ). Settleable g n i w) one_more s).1

    pub full_settled : merged_on g (bottom g - i) i w ≡ settled g (bottom g - i) i w
    unfolding merged_on settled
    full_settled =
        let m : bottom g - i - 1 ≡ bottom g - suc i = omega (arith, above) in
        rw (m, one_more) (rw (no_room, settled) refl)

  pub stays_settled : i < g.levels → full ≡ false → outcome w i 0 ≡ settled g (bottom g - i) i w
  unfolding settled
  stays_settled h t = chosen (ltb (suc i) g.levels) refl t
    where
      chosen : (b : Bool) → ltb (suc i) g.levels ≡ b → (b && not (room_at g w i)) ≡ false → outcome w i 0 ≡ settled g (bottom g - i) i w
      chosen true e q =
          let u : suc i < g.levels = ltb-true (suc i) g.levels e in
          let n : bottom g - i ≡ suc (bottom g - suc i) = omega (arith, u) in
          let r : room_at g w i ≡ true = roomy (room_at g w i) q in
          rw n (rw (r, settled) refl)
        where
          roomy : (b : Bool) → (true && not b) ≡ false → b ≡ true
          roomy true z = refl
          roomy false z = sym z
      chosen false e q =
          let n : bottom g - i ≡ 0 = omega (arith, ltb-false (suc i) g.levels e, h) in
          rw n refl

  -- A merge, and what came of settling the next level.
  pub merge_settled : {v u : List ℕ} {d p q : ℕ} → u ≡ merged g i w → q ≡ merged_pages g i w →
      outcome v d p ≡ settled g (bottom g - (i + 1)) (i + 1) u → outcome v d (q + p) ≡ merged_on g (bottom g - i) i w
  unfolding merged_on
  merge_settled {v} {u} {d} {p} {q} e c s =
      let m : bottom g - i - 1 ≡ bottom g - (i + 1) = omega arith in
      rw (m, ← c, ← e, ← add-one i) (ap (after q) s)
