-- What a run of slots in order tells of a pair, from the slot that a pass reaches: its own entry decides, else the fence met stepping
-- back, and a run with no fences tells nothing. Assumes nothing.
use Prim.Native.Nat.{ℕ, zero, suc, ◌+◌, ◌*◌, ◌≤◌, ◌<◌}
use Rattle.std.proofs.Common.{zero-add, arith, sym, ◌∙◌, le-ltb, ltb-true}
use Rattle.std.specs.Prelude.{◌≡◌, Bool, not, length, get_or, take, ltb, Some, None}
use Rattle.std.proofs.Math.Path.{refl, ap}
use Rattle.std.proofs.Math.Bool.{true, false}
use Rattle.std.proofs.lemmas.Bool.{false≢true}
use mathlib.Core.List.{List, ◌∷◌, reverse}
use Rattle.laws.specs.Tests.{and_right}
use Rattle.laws.specs.Lists.{passing, all, length_span, get_d_span, all_at, reverse_take}
use Rattle.slot.specs.declared.Pair.{Pair}
use Rattle.slot.specs.declared.Slot.{Slot}
use Rattle.slot.specs.declared.Kind.{Kind}
use Rattle.slot.specs.declared.Kind.TheVariants.{Normal, Filter, External, Internal}
use Rattle.slot.specs.Pair.{before, same}
use Rattle.slot.specs.Slot.{slot_at}
use Rattle.rules.specs.Level.{fence_kind}
use Rattle.rules.specs.Finding.{normal_kind, decided, follow, nothing, at_most, step_back, tell_from, tell}
use Rattle.rules.specs.Sound.{in_order, legal, legal_kind, slots_from}
use Rattle.page.specs.Form.{at_most_first}
use Rattle.page.specs.Tell.{fence_back, fence_back_here, fence_back_on, met_in}

-- A legal slot over a level without pages is no fence.
pub no_fence : (inner : Bool) (s : Slot) → legal inner 0 s ≡ true → fence_kind s.kind ≡ false
unfolding legal
no_fence inner s e = by_kind s.kind e
  where
    by_kind : (k : Kind) → legal_kind inner 0 k s.page.0 ≡ true → fence_kind k ≡ false
    by_kind Normal e = refl
    by_kind Filter e = refl
    by_kind External e = let z : true ≡ false = sym e ∙ le-ltb s.page.0 0 (omega arith) in cc
    by_kind Internal e = let z : true ≡ false = sym (and_right inner (ltb s.page.0 0) e) ∙ le-ltb s.page.0 0 (omega arith) in cc

module _ (w : List ℕ) (place n : ℕ) where
  -- Slot j of the run.
  pub length_run : length (slots_from w place n) ≡ n
  unfolding slots_from
  length_run = length_span _ 0 n

  slot_of_run : (j : ℕ) (d : Slot) → j < n → get_or (slots_from w place n) j d ≡ slot_at w (place + 3 * j)
  unfolding slots_from
  slot_of_run j d h = get_d_span (λ i. slot_at w (place + 3 * i)) 0 n j d h ∙ ap (λ (i : ℕ). slot_at w (place + 3 * i)) (zero-add j)

  -- The first j + 1 slots, the last one first.
  last_first : (j : ℕ) → j < n → reverse (take (suc j) (slots_from w place n)) ≡ slot_at w (place + 3 * j) ∷ reverse (take j (slots_from w place n))
  last_first j h =
      reverse_take (slots_from w place n) j (slot_at w place) (omega (arith, length_run)) ∙
      ap (λ (s : Slot). s ∷ reverse (take j (slots_from w place n))) (slot_of_run j (slot_at w place) h)

  -- Stepping back meets a fence where the first slot is one.
  step_back_lem : (j : ℕ) → j < n → fence_kind (slot_at w (place + 3 * 0)).kind ≡ true →
      step_back (reverse (take (suc j) (slots_from w place n))) ≡ follow (fence_back w place j).0
  unfolding step_back fence_back
  step_back_lem zero h f = rw (last_first 0 h, f, step_back)
  step_back_lem (suc j) h f = rw (last_first (suc j) h) (met (fence_kind (slot_at w (place + 3 * suc j)).kind) refl (step_back_lem j (omega arith) f))
    where
      met : (b : Bool) → fence_kind (slot_at w (place + 3 * suc j)).kind ≡ b →
          step_back (reverse (take (suc j) (slots_from w place n))) ≡ follow (fence_back w place j).0 →
          step_back (slot_at w (place + 3 * suc j) ∷ reverse (take (suc j) (slots_from w place n))) ≡ follow (fence_back w place (suc j)).0
      met true e ih = rw (e, step_back, fence_back_here w place (suc j) e)
      met false e ih = rw (e, step_back, fence_back_on w place j e) ih

  -- Where the level below has no pages, no slot is a fence, and stepping back meets none.
  step_past : (inner : Bool) (j : ℕ) → j ≤ n → all (legal inner 0) (slots_from w place n) ≡ true →
      step_back (reverse (take j (slots_from w place n))) ≡ nothing
  unfolding step_back
  step_past inner zero h e = refl
  step_past inner (suc j) h e =
      let f = no_fence inner (slot_at w (place + 3 * j)) (rw (slot_of_run j (slot_at w place) h) at (all_at (legal inner 0) (slots_from w place n) j (slot_at w place) e (omega (arith, length_run)))) in
      rw (last_first j h, f, step_back) (step_past inner j (omega arith) e)

-- An entry of just that pair decides; a slot that is none leaves it to the fences.
tell_entry : (s : Slot) (ss : List Slot) (asked : Pair) (b : Bool) → met_in s asked ≡ Some b → tell_from asked (s ∷ ss) ≡ decided b
unfolding met_in tell_from
tell_entry s ss asked b e = by_fence (fence_kind s.kind) refl (same asked s.pair) refl
  where
    by_fence : (f : Bool) → fence_kind s.kind ≡ f → (m : Bool) → same asked s.pair ≡ m → tell_from asked (s ∷ ss) ≡ decided b
    by_fence true p m q = let z : None ≡ Some b = rw p at e in cc
    by_fence false p true q = let z : Some (normal_kind s.kind) ≡ Some b = rw (p, q) at e in rw (p, q, tell_from) (cc)
    by_fence false p false q = let z : None ≡ Some b = rw (p, q) at e in cc

tell_absent : (s : Slot) (ss : List Slot) (asked : Pair) → met_in s asked ≡ None → tell_from asked (s ∷ ss) ≡ step_back (s ∷ ss)
unfolding met_in tell_from
tell_absent s ss asked e = by_fence (fence_kind s.kind) refl (same asked s.pair) refl
  where
    by_fence : (f : Bool) → fence_kind s.kind ≡ f → (m : Bool) → same asked s.pair ≡ m → tell_from asked (s ∷ ss) ≡ step_back (s ∷ ss)
    by_fence true p true q = rw (p, q, tell_from)
    by_fence true p false q = rw (p, q, tell_from)
    by_fence false p true q = let z : Some (normal_kind s.kind) ≡ None = rw (p, q) at e in cc
    by_fence false p false q = rw (p, q, tell_from)

-- What a run in order tells, by the number of its slots at most the pair.
module _ (w : List ℕ) (place n : ℕ) (asked : Pair) (order : in_order (slots_from w place n) ≡ true) where
  abbrev reached : ℕ
  reached = length (passing (λ s. not (before asked s.pair)) (slots_from w place n))

  tell_from_reach : (r : ℕ) → r ≡ reached → tell asked (slots_from w place n) ≡ tell_from asked (reverse (take r (slots_from w place n)))
  unfolding tell at_most
  tell_from_reach r e = rw (at_most_first asked (slots_from w place n) order, ← e)

  pub tells_nothing : 0 ≡ reached → tell asked (slots_from w place n) ≡ nothing
  unfolding tell_from
  tells_nothing e = tell_from_reach 0 e

  module _ (j : ℕ) (fits : j < n) (e : suc j ≡ reached) where
    pub tells_entry : (b : Bool) → met_in (slot_at w (place + 3 * j)) asked ≡ Some b → tell asked (slots_from w place n) ≡ decided b
    tells_entry b m = tell_from_reach (suc j) e ∙ rw (last_first w place n j fits) (tell_entry _ _ asked b m)

    pub tells_fence : fence_kind (slot_at w place).kind ≡ true → met_in (slot_at w (place + 3 * j)) asked ≡ None →
        tell asked (slots_from w place n) ≡ follow (fence_back w place j).0
    tells_fence f m =
        let here : place + 3 * 0 ≡ place = omega arith in
        tell_from_reach (suc j) e ∙
        rw (last_first w place n j fits)
        (tell_absent _ _ asked m ∙ rw (← last_first w place n j fits) (step_back_lem w place n j fits (rw here f)))

    pub tells_past : (inner : Bool) → all (legal inner 0) (slots_from w place n) ≡ true → met_in (slot_at w (place + 3 * j)) asked ≡ None →
        tell asked (slots_from w place n) ≡ nothing
    tells_past inner l m =
        tell_from_reach (suc j) e ∙
        rw (last_first w place n j fits)
        (tell_absent _ _ asked m ∙ rw (← last_first w place n j fits) (step_past w place n inner (suc j) fits l))

-- The fence followed names a page that the level below has.
fence_names : (inner : Bool) (below : ℕ) (s : Slot) → legal inner below s ≡ true → fence_kind s.kind ≡ true → s.page.0 < below
unfolding legal
fence_names inner below s e f = by_kind s.kind e f
  where
    by_kind : (k : Kind) → legal_kind inner below k s.page.0 ≡ true → fence_kind k ≡ true → s.page.0 < below
    by_kind Normal e f = absurd (false≢true f)
    by_kind Filter e f = absurd (false≢true f)
    by_kind External e f = ltb-true s.page.0 below e
    by_kind Internal e f = ltb-true s.page.0 below (and_right inner (ltb s.page.0 below) e)

pub followed_page : (w : List ℕ) (place n : ℕ) (inner : Bool) (below j : ℕ) → j < n → all (legal inner below) (slots_from w place n) ≡ true →
    fence_kind (slot_at w place).kind ≡ true → (fence_back w place j).0 < below
followed_page w place n inner below j h l f = from j h
  where
    legal_at : (i : ℕ) → i < n → legal inner below (slot_at w (place + 3 * i)) ≡ true
    legal_at i h = rw (slot_of_run w place n i (slot_at w place) h) at (all_at (legal inner below) (slots_from w place n) i (slot_at w place) l (omega (arith, length_run w place n)))

    here : place + 3 * 0 ≡ place
    here = omega arith

    from : (i : ℕ) → i < n → (fence_back w place i).0 < below
    from zero h = rw (fence_back_here w place 0 (rw here f)) (fence_names inner below (slot_at w (place + 3 * 0)) (legal_at 0 h) (rw here f))
    from (suc i) h = met (fence_kind (slot_at w (place + 3 * suc i)).kind) refl (from i (omega arith))
      where
        met : (b : Bool) → fence_kind (slot_at w (place + 3 * suc i)).kind ≡ b → (fence_back w place i).0 < below → (fence_back w place (suc i)).0 < below
        met true e ih = rw (fence_back_here w place (suc i) e) (fence_names inner below (slot_at w (place + 3 * suc i)) (legal_at (suc i) h) e)
        met false e ih = rw (fence_back_on w place i e) ih
