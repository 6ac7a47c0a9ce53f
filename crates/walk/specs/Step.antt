-- What the head, or a page of a lower level, tells of a pair once it has passed its tests. Assumes nothing.
use Prim.Native.Nat.{ℕ, suc, ◌+◌, ◌-◌, ◌*◌, ◌<◌, ◌≤◌}
use Rattle.std.proofs.Common.{le_trans, le_of_eq, sym, ◌∙◌, eqb-true}
use native.Mathlib.Omega.{arith}
use Rattle.std.specs.Prelude.{◌≡◌, ◌≢◌, Bool, true, false, not, cond, List, length, eqb, Option, Some, None}
use Rattle.std.proofs.Math.Path.{refl}
use Rattle.std.proofs.lemmas.Bool.{eqb-false}
use Rattle.laws.specs.Lists.{passing, all, passing_small}
use Rattle.geometry.specs.declared.Geometry.{Geometry}
use Rattle.geometry.specs.Places.{words_in_slot}
use Rattle.slot.specs.declared.Pair.{Pair}
use Rattle.slot.specs.declared.Pid.{Pid}
use Rattle.slot.specs.Pair.{before}
use Rattle.slot.specs.Slot.{slot_at}
use Rattle.page.specs.Tell.{fence_back, met_in}
use Rattle.page.specs.Told.{length_run, tells_nothing, tells_entry, tells_fence, tells_past, followed_page}
use Rattle.rules.specs.Level.{fence_kind}
use Rattle.rules.specs.Finding.{Told, decided, follow, nothing, tell}
use Rattle.rules.specs.Sound.{slots_from, in_order, legal, head_slots, page_slots, head_right, page_right}
use Rattle.rules.specs.Faults.{head_fault, walk_fault}
use Rattle.walk.specs.Stepping.{Step}
use Rattle.walk.specs.Stepping.{Decided, Follow, Nothing, Broken}

abbrev pub step_of : Told → Step
step_of (decided held) = Decided held
step_of (follow page) = Follow (record { 0 = page })
step_of nothing = Nothing

unfoldable pub head_step : Geometry → List ℕ → Pair → Step
head_step g w asked = cond (head_right g w) (step_of (tell asked (head_slots g w))) (Broken (head_fault g w))

unfoldable pub page_step : Geometry → List ℕ → Pair → ℕ → ℕ → Step
page_step g w asked i p = cond (page_right g w asked i p) (step_of (tell asked (page_slots g w i p))) (Broken (walk_fault g w i p))

-- A page to follow is one of n.
abbrev pub StepWithin : ℕ → Step → Type 0
StepWithin n (Decided held) = Unit {0}
StepWithin n (Follow page) = page.0 < n
StepWithin n Nothing = Unit {0}
StepWithin n (Broken f) = Unit {0}

-- What the slot that a pass reached tells, above the bottom and in it.
abbrev pub met_above : Option Bool → Pid → Step
met_above (Some normal) page = Decided normal
met_above None page = Follow page

abbrev pub met_bottom : Option Bool → Step
met_bottom (Some normal) = Decided normal
met_bottom None = Nothing

unfoldable pub above_step : List ℕ → ℕ → ℕ → Pair → Step
above_step w place last asked = met_above (met_in (slot_at w (place + words_in_slot * last)) asked) (fence_back w place last)

unfoldable pub bottom_step : List ℕ → ℕ → ℕ → Pair → Step
bottom_step w place reach asked = cond (eqb reach 0) Nothing (met_bottom (met_in (slot_at w (place + words_in_slot * (reach - 1))) asked))

-- A run of slots at a place, in order and with legal tags: what is told of it, from the slot that a pass reached.
module _ (w : List ℕ) (place n : ℕ) (asked : Pair) (inner : Bool) (below r : ℕ) (order : in_order (slots_from w place n) ≡ true)
    (tags : all (legal inner below) (slots_from w place n) ≡ true)
    (reaches : r ≡ length (passing (λ s. not (before asked s.pair)) (slots_from w place n))) where
  reach_small : r ≤ n
  reach_small = rw reaches (le_trans (passing_small (λ s. not (before asked s.pair)) (slots_from w place n)) (le_of_eq (length_run w place n)))

  -- Above the bottom the first slot is a fence at most the pair.
  module _ (first : fence_kind (slot_at w place).kind ≡ true) (some : 1 ≤ r) where
    pub above_tells : above_step w place (r - 1) asked ≡ step_of (tell asked (slots_from w place n))
    unfolding above_step
    above_tells = by_entry (met_in (slot_at w (place + 3 * (r - 1))) asked) refl
      where
        last : suc (r - 1) ≡ r
        last = omega arith

        by_entry : (m : Option Bool) → met_in (slot_at w (place + 3 * (r - 1))) asked ≡ m →
            met_above m (fence_back w place (r - 1)) ≡ step_of (tell asked (slots_from w place n))
        by_entry (Some b) e = rw (tells_entry w place n asked order (r - 1) (omega (arith, reach_small)) (last ∙ reaches) b e)
        by_entry None e = rw (tells_fence w place n asked order (r - 1) (omega (arith, reach_small)) (last ∙ reaches) first e)

    pub above_within : StepWithin below (above_step w place (r - 1) asked)
    unfolding above_step
    above_within = by_entry (met_in (slot_at w (place + 3 * (r - 1))) asked)
      where
        by_entry : (m : Option Bool) → StepWithin below (met_above m (fence_back w place (r - 1)))
        by_entry (Some b) = tt
        by_entry None = followed_page w place n inner below (r - 1) (omega (arith, reach_small)) tags first

-- In the bottom no slot is a fence.
module _ (w : List ℕ) (place n : ℕ) (asked : Pair) (inner : Bool) (r : ℕ) (order : in_order (slots_from w place n) ≡ true)
    (tags : all (legal inner 0) (slots_from w place n) ≡ true)
    (reaches : r ≡ length (passing (λ s. not (before asked s.pair)) (slots_from w place n))) where
  pub bottom_tells : bottom_step w place r asked ≡ step_of (tell asked (slots_from w place n))
  unfolding bottom_step
  bottom_tells = by_reach (eqb r 0) refl
    where
      met_one : (m : Option Bool) → suc (r - 1) ≡ r → met_in (slot_at w (place + 3 * (r - 1))) asked ≡ m → met_bottom m ≡ step_of (tell asked (slots_from w place n))
      met_one (Some b) last e =
          rw (tells_entry w place n asked order (r - 1) (omega (arith, reach_small w place n asked inner 0 r order tags reaches)) (last ∙ reaches) b e)
      met_one None last e =
          rw (tells_past w place n asked order (r - 1) (omega (arith, reach_small w place n asked inner 0 r order tags reaches)) (last ∙ reaches) inner tags e)

      by_reach : (b : Bool) → eqb r 0 ≡ b → cond b Nothing (met_bottom (met_in (slot_at w (place + 3 * (r - 1))) asked)) ≡ step_of (tell asked (slots_from w place n))
      by_reach true e = rw (tells_nothing w place n asked order (sym (eqb-true r 0 e) ∙ reaches))
      by_reach false e =
          let d : r ≢ 0 = eqb-false r 0 e in
          met_one (met_in (slot_at w (place + 3 * (r - 1))) asked) (omega arith) refl

-- The bottom names no page to follow.
pub bottom_within : (n : ℕ) (w : List ℕ) (place r : ℕ) (asked : Pair) → StepWithin n (bottom_step w place r asked)
unfolding bottom_step
bottom_within n w place r asked = by_reach (eqb r 0) (met_in (slot_at w (place + 3 * (r - 1))) asked)
  where
    by_reach : (b : Bool) (m : Option Bool) → StepWithin n (cond b Nothing (met_bottom m))
    by_reach true m = tt
    by_reach false (Some b) = tt
    by_reach false None = tt
