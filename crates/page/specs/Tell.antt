-- What the clauses of src/lib.rt cite of the last slot at most a pair: its entry, or the fence met stepping back. Assumes nothing.
use Rattle.std.specs.Prelude.{ℕ, zero, suc, ◌+◌, ◌-◌, ◌*◌, ◌≤◌, ◌≡◌, refl, Bool, true, false, cond, List, Option, Some, None}
use Rattle.std.proofs.Common.{sub-one, arith, sym}
use Rattle.slot.specs.declared.Pid.{Pid}
use Rattle.slot.specs.declared.Pair.{Pair}
use Rattle.slot.specs.declared.Slot.{Slot}
use Rattle.slot.specs.Pair.{same}
use Rattle.slot.specs.Slot.{slot_at}
use Rattle.rules.specs.Level.{fence_kind}
use Rattle.rules.specs.Finding.{normal_kind}
use Rattle.geometry.specs.Places.{words_in_slot}

-- Stepping back from slot j of the run at a place, the page of the first fence met; the first slot's where there is none.
unfoldable pub fence_back : List ℕ → ℕ → ℕ → Pid
fence_back w place zero = (slot_at w (place + words_in_slot * 0)).page
fence_back w place (suc j) =
    elim (fence_kind (slot_at w (place + words_in_slot * suc j)).kind) [ true ↦ (slot_at w (place + words_in_slot * suc j)).page | false ↦ fence_back w place j ]

-- Whether an index entry of just that pair in a slot is normal.
unfoldable pub met_in : Slot → Pair → Option Bool
met_in s asked = cond (fence_kind s.kind) None (cond (same asked s.pair) (Some (normal_kind s.kind)) None)

-- A fence decides; else the step goes on.
pub fence_back_here : (w : List ℕ) (place j : ℕ) → fence_kind (slot_at w (place + 3 * j)).kind ≡ true →
    fence_back w place j ≡ (slot_at w (place + 3 * j)).page
unfolding fence_back
fence_back_here w place zero e = refl
fence_back_here w place (suc j) e = rw (e, fence_back)

pub fence_back_on : (w : List ℕ) (place j : ℕ) → fence_kind (slot_at w (place + 3 * suc j)).kind ≡ false →
    fence_back w place (suc j) ≡ fence_back w place j
unfolding fence_back
fence_back_on w place j e = rw (e, fence_back)

-- Where the run's first slot is a fence, a slot that is none is a later one.
pub past_first : (w : List ℕ) (place j : ℕ) → fence_kind (slot_at w place).kind ≡ true → fence_kind (slot_at w (place + 3 * j)).kind ≡ false →
    1 ≤ j
past_first w place zero e f =
    let here : place + 3 * 0 ≡ place = omega arith in
    let g : fence_kind (slot_at w place).kind ≡ false = rw here at f in
    absurd (let z : ◌≡◌ {A = ℕ} 0 1 = cc in omega arith)
past_first w place (suc j) e f = omega arith

-- One step back: from slot j, which is no fence, to slot j − 1.
pub fence_back_step : (w : List ℕ) (place j : ℕ) → fence_kind (slot_at w place).kind ≡ true → fence_kind (slot_at w (place + 3 * j)).kind ≡ false →
    fence_back w place (j - 1) ≡ fence_back w place j
fence_back_step w place zero e f = absurd (let h = past_first w place zero e f in omega arith)
fence_back_step w place (suc j) e f = rw (sub-one (suc j)) (sym (fence_back_on w place j f))
