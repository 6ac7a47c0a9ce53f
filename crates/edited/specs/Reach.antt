-- How many slots are at most a pair; in slot order they stand first. Assumes nothing.
use Rattle.std.specs.Prelude.{ℕ, suc, ◌≤◌, ◌≡◌, true, false, List, [], ◌∷◌}
use Rattle.std.proofs.Math.Path.{refl, ap}
use Rattle.std.proofs.Math.Bool.{not}
use Rattle.std.proofs.Math.ListN.{length}
use Rattle.laws.specs.Lists.{passing, passing_yes, passing_small}
use Rattle.slot.specs.declared.Pair.{Pair}
use Rattle.slot.specs.declared.Slot.{Slot}
use Rattle.slot.specs.Pair.{before}
use Rattle.rules.specs.Sound.{in_order}
use Rattle.page.specs.Form.{none_at_most}

unfoldable pub reach : Pair → List Slot → ℕ
reach p ss = length (passing (λ s. not (before p s.pair)) ss)

module _ (p : Pair) where
  pub reach_none : reach p [] ≡ 0
  unfolding reach passing
  reach_none = refl

  pub reach_within : (ss : List Slot) → reach p ss ≤ length ss
  unfolding reach
  reach_within ss = passing_small (λ s. not (before p s.pair)) ss

  -- A slot at most the pair is one of them; where the first slot is above it, none is.
  pub reach_on : (s : Slot) (ss : List Slot) → before p s.pair ≡ false → reach p (s ∷ ss) ≡ suc (reach p ss)
  unfolding reach
  reach_on s ss h = ap length (passing_yes (λ (s : Slot). not (before p s.pair)) s ss (ap not h))

  pub reach_past : (s : Slot) (ss : List Slot) → in_order (s ∷ ss) ≡ true → before p s.pair ≡ true → reach p (s ∷ ss) ≡ 0
  unfolding reach
  reach_past s ss e h = ap length (none_at_most p s ss e h)
