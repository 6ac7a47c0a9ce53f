-- The fences over a level: one for each of its pages, legal, in turn, and rising where the level's own slots do. Assumes nothing.
use Prim.Native.Nat.{ℕ, zero, suc, ◌-◌, ◌*◌, ◌<◌}
use native.Mathlib.Omega.{arith}
use Rattle.std.specs.Prelude.{◌≡◌, true, false, List, [], ◌∷◌, length, get_or}
use Rattle.std.proofs.Math.Path.{refl}
use Rattle.std.proofs.Common.{ap, ◌∙◌}
use borrow.Author.Tests.{lt-ltb}
use Rattle.laws.specs.Lists.{span, passing, all}
use Rattle.laws.specs.Flat.{span_first, all_span}
use Rattle.slot.specs.declared.Pair.{Pair}
use Rattle.slot.specs.declared.Slot.{Slot}
use Rattle.slot.specs.Pair.{rank, least, least_first}
use Rattle.rules.specs.Level.{external, pages_for, first_among, fence_of, fences}
use Rattle.rules.specs.Pages.{pages_some, pages_inside}
use Rattle.rules.specs.Sound.{fence_pages, legal}
use Rattle.rules.specs.Woven.{fence, fence_kind_lem, fences_all, pages_fence}
use Rattle.finding.specs.Rising.{weight, Rising, weight_least, weight_most, rising_at, rising_apart, rising_span}

-- The fences over the levels below, whose slots are given, and the number of pages that they name.
unfoldable pub fences_over : List (List Slot) → List Slot
fences_over [] = []
fences_over (below ∷ ss) = fences (first_among below) (pages_for (length below))

unfoldable pub pages_under : List (List Slot) → ℕ
pages_under [] = 0
pages_under (below ∷ ss) = pages_for (length below)

-- A fence over the pages below: its page and its weight.
module _ (first : ℕ → Pair) where
  fence_page : (k : ℕ) → (fence_of first k).page.0 ≡ k
  unfolding fence_of external
  fence_page zero = refl
  fence_page (suc k) = refl

  fence_legal : (n k : ℕ) → k < n → legal false n (fence_of first k) ≡ true
  unfolding fence_of external legal
  fence_legal n zero h = lt-ltb 0 n h
  fence_legal n (suc k) h = lt-ltb (suc k) n h

  fence_least : weight (fence_of first 0) ≡ 0
  unfolding fence_of external weight
  fence_least = omega (arith, least_first)

  fence_later : (k : ℕ) → weight (fence_of first (suc k)) ≡ 3 * rank (first (suc k))
  unfolding fence_of external weight
  fence_later k = omega arith

pub fences_only : (ss : List (List Slot)) → all fence (fences_over ss) ≡ true
unfolding fences_over fences all
fences_only [] = refl
fences_only (below ∷ ss) = fences_all (first_among below) 0 (pages_for (length below))

pub fences_legal : (ss : List (List Slot)) → all (legal false (pages_under ss)) (fences_over ss) ≡ true
unfolding fences_over fences pages_under all
fences_legal [] = refl
fences_legal (below ∷ ss) =
    all_span (legal false (pages_for (length below))) (fence_of (first_among below)) 0 (pages_for (length below))
    (λ k h. fence_legal (first_among below) (pages_for (length below)) k (omega arith))

pub bottom_legal : all (legal true 0) (fences_over []) ≡ true
unfolding fences_over all
bottom_legal = refl

-- They name pages 0, 1, … in turn.
pages_from : (first : ℕ → Pair) (i n : ℕ) → fence_pages (span (fence_of first) i n) ≡ span (λ p. p) i n
unfolding span fence_pages passing
pages_from first i zero = refl
pages_from first i (suc n) =
    pages_fence (fence_of first i) (span (fence_of first) (suc i) n) (fence_kind_lem first i) ∙ rw (fence_page first i) (ap (λ (l : List ℕ). i ∷ l) (pages_from first (suc i) n))

pub fences_pages : (ss : List (List Slot)) → fence_pages (fences_over ss) ≡ span (λ p. p) 0 (pages_under ss)
unfolding fences_over fences pages_under fence_pages passing span
fences_pages [] = refl
fences_pages (below ∷ ss) = pages_from (first_among below) 0 (pages_for (length below))

-- Their weights rise: the first slots of two neighbouring pages are 21 slots apart.
fences_next : (below : List Slot) → Rising 0 below → (k : ℕ) → suc k < pages_for (length below) →
    weight (fence_of (first_among below) k) < weight (fence_of (first_among below) (suc k))
unfolding first_among
fences_next below r zero u =
    let d = external least 0 in
    let h = pages_inside (length below) 1 (omega arith) u in
    omega (arith, fence_least (first_among below), fence_later (first_among below) 0, weight_most (get_or below 21 d), rising_at 0 below 21 d r h)
fences_next below r (suc k) u =
    let d = external least 0 in
    let h = pages_inside (length below) (suc (suc k)) (omega arith) u in
    omega (
      arith,
      fence_later (first_among below) k,
      fence_later (first_among below) (suc k),
      weight_least (get_or below (21 * suc k) d),
      weight_most (get_or below (21 * suc (suc k)) d),
      rising_apart 0 below (21 * suc k) (21 * suc (suc k)) d r (omega arith) h,
    )

pub fences_rising : (below : List Slot) (ss : List (List Slot)) → Rising 0 below → Rising 0 (fences_over (below ∷ ss))
unfolding fences_over fences
fences_rising below ss r =
    rising_span (fence_of (first_among below)) 0 0 (pages_for (length below)) (omega arith) (λ k l u. fences_next below r k (omega arith))

-- The first one is the least fence, to page 0.
pub fences_first : (first : ℕ → Pair) (n : ℕ) → fences first (pages_for n) ≡ external least 0 ∷ span (fence_of first) 1 (pages_for n - 1)
unfolding fences fence_of
fences_first first n = span_first (fence_of first) 0 (pages_for n) (pages_for n - 1) (omega (arith, pages_some n))
