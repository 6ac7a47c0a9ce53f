-- What the ranges of H, k and l bound: capacities, totals and page rooms, one law over the level each. Assumes nothing.
use Prim.Native.Nat.{ℕ, zero, suc, ◌+◌, ◌-◌, ◌*◌, ◌/◌, ◌^◌, ◌≤◌, ◌<◌}
use Rattle.std.proofs.Math.Nat.{mul-le-mul, pow-le-pow_left, pow-le-pow_right, pow-zero, one-le-pow}
use Rattle.std.proofs.Common.{pow-suc, mul_assoc, mul-one, le_trans, sym, ap, ◌∙◌}
use native.Mathlib.Omega.{arith}
use Rattle.std.specs.Prelude.{◌≡◌, refl, Bool, ◌&&◌, ◌≢◌, List, get_or, leb, eqb}
use Rattle.std.proofs.Math.Bool.{true, false, cond}
use Rattle.std.proofs.Math.Dec.{ltb}
use borrow.Author.Tests.{leb-true, leb-false, eqb-true, eqb-false, le-leb, lt-ltb, le-ltb}
use Rattle.laws.specs.Tests.{and_left, and_right, and_false_right}
use Rattle.geometry.specs.declared.Geometry.{Geometry}
use Rattle.geometry.specs.declared.Plan.{Plan}
use Rattle.geometry.specs.Geometry.{between, in_range, InRange, bottom, capacity, most, total, room_over, room, within, room_of, capacities, rooms}

-- What the tests of the ranges show.
between_least : (a b n : ℕ) → between a b n ≡ true → a ≤ n
unfolding between
between_least a b n e = leb-true a n (and_left (leb a n) (leb n b) e)

between_most : (a b n : ℕ) → between a b n ≡ true → n ≤ b
unfolding between
between_most a b n e = leb-true n b (and_right (leb a n) (leb n b) e)

pub in_range_lem : (g : Geometry) → in_range g ≡ true → InRange g
unfolding in_range
in_range_lem g e =
    let hk = and_left (between 1 64 g.head && between 2 8 g.ratio) (between 2 4 g.levels) e in
    let l = and_right (between 1 64 g.head && between 2 8 g.ratio) (between 2 4 g.levels) e in
    let h = and_left (between 1 64 g.head) (between 2 8 g.ratio) hk in
    let k = and_right (between 1 64 g.head) (between 2 8 g.ratio) hk in
    record {
      head_least = between_least 1 64 g.head h;
      head_most = between_most 1 64 g.head h;
      ratio_least = between_least 2 8 g.ratio k;
      ratio_most = between_most 2 8 g.ratio k;
      levels_least = between_least 2 4 g.levels l;
      levels_most = between_most 2 4 g.levels l;
    }

pub range_tested : (g : Geometry) → InRange g → in_range g ≡ true
unfolding in_range between
range_tested g fit =
    rw (
      le-leb 1 g.head fit.head_least,
      le-leb g.head 64 fit.head_most,
      le-leb 2 g.ratio fit.ratio_least,
      le-leb g.ratio 8 fit.ratio_most,
      le-leb 2 g.levels fit.levels_least,
      le-leb g.levels 4 fit.levels_most,
    ) refl

-- cap(i + 1) = cap(i) × k.
pub capacity_suc : (g : Geometry) (i : ℕ) → capacity g (suc i) ≡ capacity g i * g.ratio
unfolding capacity
capacity_suc g i = ap (λ (n : ℕ). g.head * n) (pow-suc g.ratio i) ∙ sym (mul_assoc g.head (g.ratio ^ i) g.ratio)

-- cap(0) = H.
pub capacity_zero : (g : Geometry) → capacity g 0 ≡ g.head
unfolding capacity
capacity_zero g = rw (pow-zero g.ratio) (mul-one g.head)

pub capacity_one : (g : Geometry) → capacity g 1 ≡ g.head * g.ratio
capacity_one g = capacity_suc g 0 ∙ ap (λ (n : ℕ). n * g.ratio) (capacity_zero g)

pub capacity_two : (g : Geometry) → capacity g 2 ≡ g.head * g.ratio * g.ratio
capacity_two g = capacity_suc g 1 ∙ ap (λ (n : ℕ). n * g.ratio) (capacity_one g)

pub capacity_three : (g : Geometry) → capacity g 3 ≡ g.head * g.ratio * g.ratio * g.ratio
capacity_three g = capacity_suc g 2 ∙ ap (λ (n : ℕ). n * g.ratio) (capacity_two g)

module _ (g : Geometry) (fit : InRange g) where
  -- cap(i) is at least 1 and at most 64 × 8ⁱ.
  pub capacity_least : (i : ℕ) → 1 ≤ capacity g i
  unfolding capacity
  capacity_least i = mul-le-mul {n₁ = 1} {m₁ = 1} fit.head_least (one-le-pow i g.ratio (omega arith))

  pub capacity_most : (i : ℕ) → capacity g i ≤ 64 * 8 ^ i
  unfolding capacity
  capacity_most i = mul-le-mul fit.head_most (pow-le-pow_left fit.ratio_most i)

  -- So is cap(i) at most 32,768 for each level there can be.
  pub capacity_small : (i : ℕ) → i ≤ 3 → capacity g i ≤ 32768
  capacity_small i h = le_trans (capacity_most i) (mul-le-mul {n₁ = 64} {n₂ = 64} (omega arith) (pow-le-pow_right {n = 8} (omega arith) h))

  -- T(i) is at most 37,440 for each level there can be.
  pub total_small : (i : ℕ) → i ≤ 3 → total g i ≤ 37440
  unfolding total
  total_small zero h = omega (arith, capacity_most 0)
  total_small (suc zero) h = omega (arith, capacity_most 0, capacity_most 1)
  total_small (suc (suc zero)) h = omega (arith, capacity_most 0, capacity_most 1, capacity_most 2)
  total_small (suc (suc (suc zero))) h = omega (arith, capacity_most 0, capacity_most 1, capacity_most 2, capacity_most 3)
  total_small (suc (suc (suc (suc i)))) h = absurd (omega arith)

  -- Pg(i) is at most 2,000.
  room_over_small : (n : ℕ) → room_over g n ≤ 2000
  unfolding room_over most
  room_over_small zero = omega (arith, capacity_small (bottom g) (omega arith))
  room_over_small (suc n) = omega (arith, total_small (bottom g - suc n) (omega arith), room_over_small n)

  pub room_small : (i : ℕ) → room g i ≤ 2000
  unfolding room
  room_small i = chosen (leb 1 i && ltb i g.levels)
    where
      chosen : (b : Bool) → cond b (room_over g (bottom g - i)) 0 ≤ 2000
      chosen true = room_over_small (bottom g - i)
      chosen false = omega arith

  -- Every level below the head has room for a page at least.
  room_over_least : (n : ℕ) → 1 ≤ room_over g n
  unfolding room_over most
  room_over_least zero = omega (arith, capacity_least (bottom g))
  room_over_least (suc n) = omega (arith, room_over_least n)

  pub room_least : (i : ℕ) → 1 ≤ i → i < g.levels → 1 ≤ room g i
  unfolding room
  room_least i h b = rw (le-leb 1 i h, lt-ltb i g.levels b) (room_over_least (bottom g - i))

-- Pg of a level: none for the head or past the bottom, M / 21 at the bottom, (T(i) + Pg(i + 1)) / 20 above it.
pub room_zero : (g : Geometry) → room g 0 ≡ 0
unfolding room
room_zero g = refl

pub room_none : (g : Geometry) (i : ℕ) → g.levels ≤ i → room g i ≡ 0
unfolding room
room_none g i h = rw (and_false_right (leb 1 i) _ (le-ltb i g.levels h)) refl

pub room_bottom : (g : Geometry) (i : ℕ) → 1 ≤ i → g.levels ≡ suc i → room g i ≡ (capacity g i + 20) / 21
unfolding room room_over most
room_bottom g i h e =
    let z : bottom g - i ≡ 0 = omega arith in
    let b : bottom g ≡ i = omega arith in
    rw (le-leb 1 i h, lt-ltb i g.levels (omega arith), z, b) refl

pub room_above : (g : Geometry) (i : ℕ) → 1 ≤ i → suc i < g.levels → room g i ≡ (total g i + room g (suc i) + 19) / 20
unfolding room room_over
room_above g i h b =
    let z : bottom g - i ≡ suc (bottom g - suc i) = omega arith in
    let e : bottom g - suc (bottom g - suc i) ≡ i = omega arith in
    rw (le-leb 1 i h, lt-ltb i g.levels (omega arith), le-leb 1 (suc i) (omega arith), lt-ltb (suc i) g.levels b, z, e) refl

-- The room of level i from what stands above it in the code: its capacity and its T, where the level uses them.
pub room_from : (g : Geometry) (i cap tot : ℕ) → 1 ≤ i → (i < g.levels → cap ≡ capacity g i) → (suc i < g.levels → tot ≡ total g i) →
    room_of g i cap tot (room g (suc i)) ≡ room g i
unfolding room_of
room_from g i cap tot h c t = past (leb g.levels i) refl
  where
    above : (b : Bool) → eqb g.levels (i + 1) ≡ b → i < g.levels → cond b ((cap + 20) / 21) ((tot + room g (suc i) + 19) / 20) ≡ room g i
    above true e b = rw (c b) (sym (room_bottom g i h (omega (arith, eqb-true g.levels (i + 1) e))))
    above false e b =
        let n : suc i < g.levels = lt_of_ne e b in
        rw (t n) (sym (room_above g i h n))
      where
        lt_of_ne : eqb g.levels (i + 1) ≡ false → i < g.levels → suc i < g.levels
        lt_of_ne f b = let d : g.levels ≢ i + 1 = eqb-false g.levels (i + 1) f in omega arith

    past : (b : Bool) → leb g.levels i ≡ b → cond b 0 (cond (eqb g.levels (i + 1)) ((cap + 20) / 21) ((tot + room g (suc i) + 19) / 20)) ≡ room g i
    past true e = sym (room_none g i (leb-true g.levels i e))
    past false e = above (eqb g.levels (i + 1)) refl (leb-false g.levels i e)

-- What stands in the list of capacities.
pub within_is : (g : Geometry) (i n : ℕ) → i < g.levels → within g i n ≡ n
unfolding within
within_is g i n h = rw (lt-ltb i g.levels h)

pub within_most : (g : Geometry) (i n : ℕ) → within g i n ≤ n
unfolding within
within_most g i n = chosen (ltb i g.levels)
  where
    chosen : (b : Bool) → cond b n 0 ≤ n
    chosen true = omega arith
    chosen false = omega arith

-- Four numbers, each at most a bound: what a caller's sums rest on.
pub record FourSmall (bound : ℕ) (ns : List ℕ) : Type 0 where
  pub at0 : get_or ns 0 0 ≤ bound
  pub at1 : get_or ns 1 0 ≤ bound
  pub at2 : get_or ns 2 0 ≤ bound
  pub at3 : get_or ns 3 0 ≤ bound

pub capacities_small : (g : Geometry) → InRange g → FourSmall 32768 (capacities g)
unfolding capacities
capacities_small g fit = record {
  at0 = capacity_small g fit 0 (omega arith);
  at1 = capacity_small g fit 1 (omega arith);
  at2 = omega (arith, capacity_small g fit 2 (omega arith), within_most g 2 (capacity g 2));
  at3 = omega (arith, capacity_small g fit 3 (omega arith), within_most g 3 (capacity g 3));
}

pub capacities_told : (g : Geometry) → InRange g → {ns : List ℕ} → ns ≡ capacities g → (ns ≡ capacities g) × FourSmall 32768 ns
capacities_told g fit e = (e, rw e (capacities_small g fit))

pub rooms_small : (g : Geometry) → InRange g → FourSmall 2000 (rooms g)
unfolding rooms
rooms_small g fit = record { at0 = room_small g fit 0; at1 = room_small g fit 1; at2 = room_small g fit 2; at3 = room_small g fit 3 }

pub rooms_told : (g : Geometry) → InRange g → {ns : List ℕ} → ns ≡ rooms g → (ns ≡ rooms g) × FourSmall 2000 ns
rooms_told g fit e = (e, rw e (rooms_small g fit))

-- How far a plan's numbers reach: far below 2³².
pub record PlanSmall (p : Plan) : Type 0 where
  pub capacities_below : FourSmall 32768 p.capacities
  pub rooms_below : FourSmall 2000 p.rooms
  pub starts_below : FourSmall 600000 p.starts
  pub head_room_below : p.head_room ≤ 2064
  pub store_below : p.store_words ≤ 600000
  pub work_below : p.work_words ≤ 128000

-- The three rooms as the code makes them, from the list of capacities, the bottom first.
module _ (g : Geometry) (fit : InRange g) (caps : List ℕ) (e : caps ≡ capacities g) where
  pub room_three : (r : ℕ) → r ≡ room_of g 3 (get_or caps 3 0) 0 0 → r ≡ room g 3
  unfolding capacities
  room_three r q =
      q ∙ rw (e, ← room_none g 4 fit.levels_most)
      (room_from g 3 (within g 3 (capacity g 3)) (room g 4) (omega arith) (within_is g 3 (capacity g 3)) (λ h. absurd (omega (arith, fit.levels_most, h))))

  pub room_two : (r b : ℕ) → b ≡ room g 3 → r ≡ room_of g 2 (get_or caps 2 0) (get_or caps 0 0 + get_or caps 1 0 + get_or caps 2 0) b → r ≡ room g 2
  unfolding capacities total
  room_two r b p q =
      q ∙ rw (e, p)
      (room_from g 2 (within g 2 (capacity g 2)) (capacity g 0 + capacity g 1 + within g 2 (capacity g 2)) (omega arith) (within_is g 2 (capacity g 2))
      (λ h. rw (within_is g 2 (capacity g 2) (omega arith))))

  pub room_one : (r b : ℕ) → b ≡ room g 2 → r ≡ room_of g 1 (get_or caps 1 0) (get_or caps 0 0 + get_or caps 1 0) b → r ≡ room g 1
  unfolding capacities total
  room_one r b p q = q ∙ rw (e, p) (room_from g 1 (capacity g 1) (capacity g 0 + capacity g 1) (omega arith) (λ h. refl) (λ h. refl))
