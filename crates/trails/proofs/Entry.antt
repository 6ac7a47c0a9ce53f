-- An index entry of a pair among slots in order is the last slot at most the pair, so it decides; where the slots leave it undecided, there is
-- none. Assumes nothing.
use Rattle.std.specs.Prelude.{ℕ, zero, suc, ◌≤◌, ◌≡◌, Bool, get_or}
use Rattle.std.proofs.Common.{arith, sym, ◌∙◌}
use Rattle.std.proofs.Math.Path.{refl, ap}
use Rattle.std.proofs.Math.Bool.{true, false, not}
use mathlib.Core.List.{List, [], ◌∷◌, reverse, reverse_aux}
use Rattle.std.proofs.Math.ListN.{length, take}
use borrow.Author.Tests.{not-true}
use Rattle.laws.specs.Tests.{and_left, and_right}
use Rattle.laws.specs.Lists.{passing, all, passing_yes, passing_no, passing_small, reverse_take}
use Rattle.laws.specs.Flat.{all_join}
use Rattle.slot.specs.declared.Pair.{Pair}
use Rattle.slot.specs.declared.Slot.{Slot}
use Rattle.slot.specs.Pair.{least, before, same}
use Rattle.slot.specs.Order.{before_below, same_level}
use Rattle.rules.specs.Level.{external, fence_kind}
use Rattle.rules.specs.Finding.{decided, nothing, normal_kind, at_most, step_back, tell_from, tell}
use Rattle.rules.specs.Sound.{in_order}
use Rattle.page.specs.Form.{order_rest, at_most_first, none_at_most, none_after_entry}
use Rattle.trails.specs.Entry.{ReachesEntry, is_entry_of, no_entry_of, slot_reached, slot_reached_lem, steps_undecided}

module _ (asked : Pair) where
  abbrev up_to : Slot → Bool
  up_to s = not (before asked s.pair)

  -- An index entry of the pair has its pair and is no fence.
  entry_own : (s : Slot) → is_entry_of asked s ≡ true → (same asked s.pair ≡ true) × (fence_kind s.kind ≡ false)
  unfolding is_entry_of
  entry_own s e = (
    and_left (same asked s.pair) (not (fence_kind s.kind)) e,
    not-true (fence_kind s.kind) (and_right (same asked s.pair) (not (fence_kind s.kind)) e),
  )

  -- What the last slot at most the pair tells.
  module _ (s : Slot) (back : List Slot) where
    entry_tells : is_entry_of asked s ≡ true → tell_from asked (s ∷ back) ≡ decided (normal_kind s.kind)
    unfolding is_entry_of tell_from
    entry_tells e = rw (e, tell_from)

    other_tells : is_entry_of asked s ≡ false → tell_from asked (s ∷ back) ≡ step_back (s ∷ back)
    unfolding is_entry_of tell_from
    other_tells e = rw (e, tell_from)

    -- If it decides, it is an index entry of the pair.
    decided_entry : (b : Bool) → tell_from asked (s ∷ back) ≡ decided b → (is_entry_of asked s ≡ true) × (normal_kind s.kind ≡ b)
    decided_entry b e = by (is_entry_of asked s) refl
      where
        by : (x : Bool) → is_entry_of asked s ≡ x → (is_entry_of asked s ≡ true) × (normal_kind s.kind ≡ b)
        by true f = let z : decided (normal_kind s.kind) ≡ decided b = sym (entry_tells f) ∙ e in (f, cc)
        by false f = absurd (steps_undecided (s ∷ back) b (sym (other_tells f) ∙ e))

  -- A slot above the pair is none.
  above_no_entry : (s : Slot) → before asked s.pair ≡ true → is_entry_of asked s ≡ false
  above_no_entry s a = by (is_entry_of asked s) refl
    where
      by : (x : Bool) → is_entry_of asked s ≡ x → x ≡ false
      by true e = absurd (omega (arith, before_below asked s.pair a, same_level asked s.pair (entry_own s e).0))
      by false e = refl

  none_above : (ss : List Slot) → passing up_to ss ≡ [] → no_entry_of asked ss ≡ true
  unfolding no_entry_of all
  none_above [] e = refl
  none_above (s ∷ ss) e = by (before asked s.pair) refl (none_above ss)
    where
      by : (x : Bool) → before asked s.pair ≡ x → (passing up_to ss ≡ [] → no_entry_of asked ss ≡ true) → no_entry_of asked (s ∷ ss) ≡ true
      by true a rest = all_join (λ (s : Slot). not (is_entry_of asked s)) s ss (ap not (above_no_entry s a)) (rest (sym (passing_no up_to s ss (ap not a)) ∙ e))
      by false a rest = absurd (let z = ap length (sym (passing_yes up_to s ss (ap not a)) ∙ e) in omega (arith, z))

  -- Slots in order that follow those of `back`, the last one first. An index entry of the pair would be the last at most it, and decide.
  none_left : (ss back : List Slot) → in_order ss ≡ true → ((b : Bool) → tell_from asked (reverse_aux (passing up_to ss) back) ≡ decided b → ⊥) →
      no_entry_of asked ss ≡ true
  unfolding no_entry_of all
  none_left [] back o undecided = refl
  none_left (s ∷ ss) back o undecided = by (before asked s.pair) refl (none_left ss (s ∷ back) (order_rest s ss o))
    where
      Undecided : List Slot → Type 0
      Undecided told = (b : Bool) → tell_from asked told ≡ decided b → ⊥

      no_entry : Undecided (reverse_aux (passing up_to ss) (s ∷ back)) → (x : Bool) → is_entry_of asked s ≡ x → not x ≡ true
      no_entry u true e =
          let own = entry_own s e in
          absurd (u (normal_kind s.kind) (rw (none_after_entry asked s ss o own.0 own.1) (entry_tells s back e)))
      no_entry u false e = refl

      by : (x : Bool) → before asked s.pair ≡ x → (Undecided (reverse_aux (passing up_to ss) (s ∷ back)) → no_entry_of asked ss ≡ true) →
          no_entry_of asked (s ∷ ss) ≡ true
      by true a rest = none_above (s ∷ ss) (none_at_most asked s ss o a)
      by false a rest =
          let u : Undecided (reverse_aux (passing up_to ss) (s ∷ back)) = λ b e. undecided b (rw (passing_yes up_to s ss (ap not a)) e) in
          all_join (λ (s : Slot). not (is_entry_of asked s)) s ss (no_entry u (is_entry_of asked s) refl) (rest u)

  -- So of slots in order: where they decide, the slot reached is the entry; else there is none.
  module _ (run : List Slot) (order : in_order run ≡ true) where
    pub undecided_none : ((b : Bool) → tell asked run ≡ decided b → ⊥) → no_entry_of asked run ≡ true
    unfolding tell at_most
    undecided_none u = none_left run [] order u

    pub decided_reaches : (b : Bool) → tell asked run ≡ decided b → ReachesEntry asked run (length (passing (λ s. not (before asked s.pair)) run)) b
    unfolding tell at_most tell_from
    decided_reaches b e = by (length (passing up_to run)) refl
      where
        first_ones : passing up_to run ≡ take (length (passing up_to run)) run
        first_ones = at_most_first asked run order

        by : (r : ℕ) → length (passing up_to run) ≡ r → ReachesEntry asked run (length (passing up_to run)) b
        by zero n = absurd (let f : nothing ≡ decided b = rw (first_ones, n) at e in let z : ◌≡◌ {A = ℕ} 0 1 = cc in omega arith)
        by (suc j) n = rw n (record { reach_least = omega arith; reach_most = small; entry = told.0; kind = told.1 })
          where
            small : suc j ≤ length run
            small = rw n at (passing_small up_to run)

            told : (is_entry_of asked (slot_reached run (suc j)) ≡ true) × (normal_kind (slot_reached run (suc j)).kind ≡ b)
            told =
                rw (slot_reached_lem run j)
                (decided_entry (get_or run j (external least 0)) (reverse (take j run)) b (rw (first_ones, n, reverse_take run j (external least 0) small) at e))
