-- An index entry of a pair among slots in order is the last slot at most the pair, so it decides; where the slots leave it undecided, there is
-- none. Assumes nothing.
use Rattle.std.specs.Prelude.{ℕ, suc, ◌-◌, ◌≤◌, ◌≡◌, Bool, ◌&&◌, get_or}
use Rattle.std.proofs.Common.{arith}
use Rattle.std.proofs.Math.Path.{ap}
use Rattle.std.proofs.Math.Bool.{true, false, not}
use mathlib.Core.List.{List, [], ◌∷◌}
use Rattle.std.proofs.Math.ListN.{length}
use Rattle.laws.specs.Lists.{all}
use Rattle.slot.specs.declared.Pair.{Pair}
use Rattle.slot.specs.declared.Slot.{Slot}
use Rattle.slot.specs.Pair.{least, same}
use Rattle.rules.specs.Level.{external, fence_kind}
use Rattle.rules.specs.Finding.{Told, decided, follow, normal_kind, step_back}

-- An index entry, so no fence, of just that pair; slots that have none.
unfoldable pub is_entry_of : Pair → Slot → Bool
is_entry_of asked s = same asked s.pair && not (fence_kind s.kind)

unfoldable pub no_entry_of : Pair → List Slot → Bool
no_entry_of asked run = all (λ s. not (is_entry_of asked s)) run

-- The last of the first slots, as many as reach. Where there is none, a fence.
unfoldable pub slot_reached : List Slot → ℕ → Slot
slot_reached run reach = get_or run (reach - 1) (external least 0)

pub slot_reached_lem : (run : List Slot) (j : ℕ) → slot_reached run (suc j) ≡ get_or run j (external least 0)
unfolding slot_reached
slot_reached_lem run j = ap (λ (k : ℕ). get_or run k (external least 0)) (omega arith)

-- The slot reached is one of the run and an index entry of the pair, normal exactly if held.
pub record ReachesEntry (asked : Pair) (run : List Slot) (reach : ℕ) (held : Bool) : Type 0 where
  pub reach_least : 1 ≤ reach
  pub reach_most : reach ≤ length run
  pub entry : is_entry_of asked (slot_reached run reach) ≡ true
  pub kind : normal_kind (slot_reached run reach).kind ≡ held

-- Stepping back decides nothing.
pub steps_undecided : (ss : List Slot) (b : Bool) → step_back ss ≡ decided b → ⊥
unfolding step_back
steps_undecided [] b e = let z : ◌≡◌ {A = ℕ} 0 1 = cc in omega arith
steps_undecided (s ∷ ss) b e = by (fence_kind s.kind) e (steps_undecided ss b)
  where
    by : (f : Bool) → elim f as (λ x. Told) [ true ↦ follow s.page.0 | false ↦ step_back ss ] ≡ decided b → (step_back ss ≡ decided b → ⊥) → ⊥
    by true e rest = let z : ◌≡◌ {A = ℕ} 0 1 = cc in omega arith
    by false e rest = rest e
