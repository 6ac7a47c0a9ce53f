-- The order of pairs, by badge and then floor, and its laws. A pair's rank is its place in that order, so that an order of pairs
-- is one of numbers; nothing outside this module looks into it. Assumes nothing.
use Rattle.std.specs.Prelude.{ℕ, zero, suc, ◌+◌, ◌*◌, ◌<◌, ◌≡◌, refl, ◌≢◌, Bool, true, false, ◌||◌, ltb, eqb}
use Rattle.std.proofs.Common.{arith, lt-ltb, le-ltb, ltb-true, eqb-true}
use Rattle.laws.specs.Tests.{ltb_agree}
use Rattle.slot.specs.declared.Pair.{Pair}

-- A pair of a badge and a floor.
abbrev pub pair : ℕ → ℕ → Pair
pair b f = record { badge = b; floor = record { 0 = f } }

-- Pairs are ordered by badge, then floor.
unfoldable pub rank : Pair → ℕ
rank p = p.badge * 4294967296 + p.floor.0

-- The least pair.
unfoldable pub least : Pair
least = pair 0 0

unfoldable pub before : Pair → Pair → Bool
before a b = ltb (rank a) (rank b)

unfoldable pub same : Pair → Pair → Bool
same a b = eqb (rank a) (rank b)

-- A pair whose badge and floor are words.
pub record Words (p : Pair) : Type 0 where
  pub badge_fits : p.badge < 4294967296
  pub floor_fits : p.floor.0 < 4294967296

-- The least pair is one of words, and no pair comes before it.
pub least_fits : Words least
unfolding least
least_fits = record { badge_fits = omega arith; floor_fits = omega arith }

pub least_first : rank least ≡ 0
unfolding rank least
least_first = refl

-- The least pair comes before any other.
pub least_or_same : (p : Pair) → (before least p || same least p) ≡ true
unfolding before same
least_or_same p = rw least_first (first_or_same (rank p))
  where
    first_or_same : (n : ℕ) → (ltb 0 n || eqb 0 n) ≡ true
    first_or_same zero = refl
    first_or_same (suc n) = rw (lt-ltb 0 (suc n) (omega arith))

pub none_before_least : (a p : Pair) → same least p ≡ true → before a p ≡ false
unfolding before same
none_before_least a p e = le-ltb (rank a) (rank p) (omega (arith, least_first, eqb-true (rank least) (rank p) e))

-- The order is total and transitive.
pub before_trans : (a b c : Pair) → before a b ≡ true → before b c ≡ true → before a c ≡ true
unfolding before
before_trans a b c p q = lt-ltb (rank a) (rank c) (omega (arith, ltb-true (rank a) (rank b) p, ltb-true (rank b) (rank c) q))

pub before_same : (a b c : Pair) → before a b ≡ true → same b c ≡ true → before a c ≡ true
unfolding before same
before_same a b c p q = lt-ltb (rank a) (rank c) (omega (arith, ltb-true (rank a) (rank b) p, eqb-true (rank b) (rank c) q))

-- By badge first, and at one badge by floor.
pub before_badge : {a b : Pair} → Words a → Words b → (a.badge ≡ b.badge → ⊥) → before a b ≡ ltb a.badge b.badge
unfolding rank before
before_badge {a} {b} fa fb n =
    let d : a.badge ≢ b.badge = n in
    ltb_agree (rank a) (rank b) a.badge b.badge (λ h. omega arith) (λ h. omega arith)

pub before_floor : (a b : Pair) → a.badge ≡ b.badge → before a b ≡ ltb a.floor.0 b.floor.0
unfolding rank before
before_floor a b e = ltb_agree (rank a) (rank b) a.floor.0 b.floor.0 (λ h. omega arith) (λ h. omega arith)

-- Two pairs of one rank are one pair.
pub rank_same : {a b : Pair} → Words a → Words b → rank a ≡ rank b → a ≡ b
unfolding rank
rank_same {a} {b} fa fb e =
    let x : a.badge ≡ b.badge = omega arith in
    let y : a.floor.0 ≡ b.floor.0 = omega arith in
    λ i. record { badge = x i; floor = record { 0 = y i } }
