-- What rising slots tell of a pair, from the front on: the last fence at most the pair, unless an index entry of just that pair comes.
-- Assumes nothing.
use Rattle.std.specs.Prelude.{ℕ, suc, ◌+◌, ◌*◌, ◌<◌, ◌≡◌, refl, Bool, true, false, not}
use Rattle.std.proofs.Common.{arith, ap, ◌∙◌}
use mathlib.Core.List.{List, [], ◌∷◌, reverse_aux}
use Rattle.laws.specs.Tests.{and_false}
use Rattle.laws.specs.Lists.{passing, passing_yes, passing_no}
use Rattle.slot.specs.declared.Pair.{Pair}
use Rattle.slot.specs.declared.Slot.{Slot}
use Rattle.slot.specs.Pair.{rank, before, same}
use Rattle.slot.specs.Order.{before_below, same_level, below_before}
use Rattle.rules.specs.Level.{fence_kind}
use Rattle.rules.specs.Finding.{Told, decided, follow, nothing, normal_kind, at_most, step_back, tell_from, tell}
use Rattle.rules.specs.Woven.{fence}
use Rattle.finding.specs.Rising.{weight, Rising, weight_least, weight_most, entry_weight}

-- What is told where the fences before tell `last`. A slot above the pair ends it.
unfoldable pub tell_on : Pair → Told → List Slot → Told
tell_on p last [] = last
tell_on p last (s ∷ ss) =
    elim (before p s.pair) [
      | true ↦ last
      | false ↦
          elim (fence_kind s.kind) [
            | true ↦ tell_on p (follow s.page.0) ss
            | false ↦ elim (same p s.pair) [ true ↦ decided (normal_kind s.kind) | false ↦ tell_on p last ss ]
          ]
    ]

-- Its four cases: a slot above the pair, a fence, the entry of the pair, and one before it.
module _ (p : Pair) (s : Slot) where
  pub by_slot : (Q : Type 0) → (before p s.pair ≡ true → Q) → (before p s.pair ≡ false → fence s ≡ true → Q) →
      (before p s.pair ≡ false → fence s ≡ false → same p s.pair ≡ true → Q) →
      (before p s.pair ≡ false → fence s ≡ false → same p s.pair ≡ false → Q) → Q
  by_slot Q above at_fence at_entry_lem past = compared (before p s.pair) refl (fence s) refl (same p s.pair) refl
    where
      compared : (a : Bool) → before p s.pair ≡ a → (f : Bool) → fence s ≡ f → (m : Bool) → same p s.pair ≡ m → Q
      compared true a f k m e = above a
      compared false a true k m e = at_fence a k
      compared false a false k true e = at_entry_lem a k e
      compared false a false k false e = past a k e

  module _ (last : Told) (ss : List Slot) where
    pub on_above : before p s.pair ≡ true → tell_on p last (s ∷ ss) ≡ last
    unfolding tell_on
    on_above a = rw (a, tell_on)

    pub on_fence : before p s.pair ≡ false → fence s ≡ true → tell_on p last (s ∷ ss) ≡ tell_on p (follow s.page.0) ss
    unfolding tell_on
    on_fence a k = rw (a, k, tell_on)

    pub on_entry : before p s.pair ≡ false → fence s ≡ false → same p s.pair ≡ true → tell_on p last (s ∷ ss) ≡ decided (normal_kind s.kind)
    unfolding tell_on
    on_entry a k m = rw (a, k, m, tell_on)

    pub on_past : before p s.pair ≡ false → fence s ≡ false → same p s.pair ≡ false → tell_on p last (s ∷ ss) ≡ tell_on p last ss
    unfolding tell_on
    on_past a k m = rw (a, k, m, tell_on)

-- Rising slots from above the pair on are all above it.
above_rising : (p : Pair) (n : ℕ) (ss : List Slot) → 3 * rank p + 2 < n → Rising n ss → passing (λ s. not (before p s.pair)) ss ≡ []
unfolding Rising passing
above_rising p n [] h r = refl
above_rising p n (s ∷ ss) h r =
    let a : before p s.pair ≡ true = below_before p s.pair (omega (arith, h, r.0, weight_most s)) in
    passing_no (λ (s : Slot). not (before p s.pair)) s ss (ap not a) ∙ above_rising p (suc (weight s)) ss (omega (arith, h, r.0)) r.1

-- The same, stepping back.
module _ (p : Pair) (s : Slot) (back : List Slot) where
  back_fence : fence s ≡ true → tell_from p (s ∷ back) ≡ step_back (s ∷ back)
  unfolding tell_from
  back_fence k = rw (k, and_false (same p s.pair), tell_from)

  step_fence : fence s ≡ true → step_back (s ∷ back) ≡ follow s.page.0
  unfolding step_back
  step_fence k = rw (k, step_back)

  back_entry : fence s ≡ false → same p s.pair ≡ true → tell_from p (s ∷ back) ≡ decided (normal_kind s.kind)
  unfolding tell_from
  back_entry k m = rw (k, m, tell_from)

  back_past : fence s ≡ false → same p s.pair ≡ false → tell_from p (s ∷ back) ≡ step_back (s ∷ back)
  unfolding tell_from
  back_past k m = rw (k, m, tell_from)

  step_past : fence s ≡ false → step_back (s ∷ back) ≡ step_back back
  unfolding step_back
  step_past k = rw (k, step_back)

-- So slots told from the last one back tell the same from the front on. `back` are those already passed, the last one first.
tell_back : (p : Pair) (n : ℕ) (ss back : List Slot) → Rising n ss → tell_from p back ≡ step_back back →
    tell_from p (reverse_aux (passing (λ s. not (before p s.pair)) ss) back) ≡ tell_on p (step_back back) ss
unfolding Rising passing tell_on
tell_back p n [] back r e = e
tell_back p n (s ∷ ss) back r e =
    by_slot p s (tell_from p (reverse_aux (passing up_to (s ∷ ss)) back) ≡ tell_on p (step_back back) (s ∷ ss))
    (λ a.
    let none = above_rising p (suc (weight s)) ss (omega (arith, before_below p s.pair a, weight_least s)) r.1 in
    rw (passing_no up_to s ss (ap not a), none, on_above p s (step_back back) ss a) e)
    (λ a k.
    rw (passing_yes up_to s ss (ap not a), on_fence p s (step_back back) ss a k, ← step_fence p s back k)
    (tell_back p (suc (weight s)) ss (s ∷ back) r.1 (back_fence p s back k)))
    (λ a k m.
    let none = above_rising p (suc (weight s)) ss (omega (arith, same_level p s.pair m, entry_weight s k)) r.1 in
    rw (passing_yes up_to s ss (ap not a), none, on_entry p s (step_back back) ss a k m) (back_entry p s back k m))
    (λ a k m.
    rw (passing_yes up_to s ss (ap not a), on_past p s (step_back back) ss a k m, ← step_past p s back k)
    (tell_back p (suc (weight s)) ss (s ∷ back) r.1 (back_past p s back k m)))
  where
    up_to : Slot → Bool
    up_to = λ s. not (before p s.pair)

pub tell_forward : (p : Pair) (n : ℕ) (ss : List Slot) → Rising n ss → tell p ss ≡ tell_on p nothing ss
unfolding tell at_most tell_from step_back
tell_forward p n ss r = tell_back p n ss [] r refl
