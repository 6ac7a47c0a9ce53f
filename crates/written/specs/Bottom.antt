-- What the walk over a row that has no fences knows at each position, and how it goes on: index entries alone, which ascend. Assumes nothing.
use Rattle.std.specs.Prelude.{ℕ, ◌+◌, ◌≤◌, ◌<◌, ◌≡◌, Bool, ◌&&◌, List, length, leb}
use Rattle.std.proofs.Common.{arith, sym, ◌∙◌}
use Rattle.std.proofs.Math.Path.{refl, ap}
use Rattle.std.proofs.Math.Bool.{true, false, not}
use Rattle.std.proofs.Math.Dec.{ltb}
use borrow.Author.Tests.{ltb-true, ltb-false, le-leb}
use Rattle.laws.specs.Tests.{and_left, and_right, and_true, and_false, and_assoc}
use Rattle.slot.specs.declared.Pair.{Pair}
use Rattle.slot.specs.declared.Slot.{Slot}
use Rattle.rules.specs.Level.{index, fence_kind}
use Rattle.rules.specs.Sound.{entries_of}
use Rattle.written.specs.declared.Row.{Row}
use Rattle.layout.specs.Stream.{same_slot, entry_of, is_index, slots_apart, index_entry, fence_no_index, entry_kind, entry_next, fenced_at, are_stream}
use Rattle.written.specs.Row.{Unfenced, row_slot, rises, rising, nothing_left, slots_on, row_slots, next_entry, wanted_at, is_wanted, entry_fits, goes_on, row_written}
use Rattle.written.specs.Position.{entries_entry, slots_on_first, slots_on_none, wanted_index, goes_fence, goes_entry, here_starts}

module _ (w : List ℕ) (row : Row) where
  -- What the walk knows at position n, where ok is whether all slots before it were right; they are entries then.
  pub record Bare (n : ℕ) (ok : Bool) (last : Pair) : Type 0 where
    pub inside : n ≤ row.slots
    pub same : row_written w row ≡ (ok && goes_on w row n 0 n last)
    pub counted : ok ≡ true → n + length (entries_of (slots_on w row n)) ≡ length (entries_of (row_slots w row))

  pub bare_starts : (last : Pair) → Bare 0 true last
  bare_starts last =
      let start = here_starts w row last in
      record { inside = start.inside; same = start.same; counted = λ t. start.counted }

module _ (w : List ℕ) (row : Row) (none : Unfenced row) where
  -- No fence is due at any position.
  none_due : (n : ℕ) → fenced_at row.fenced n ≡ false
  unfolding fenced_at
  none_due n = rw none.none_inside refl

  all_passed : (p : ℕ) → leb row.below.pages p ≡ true
  all_passed p = le-leb row.below.pages p (omega (arith, none.none_below))

  -- So the wanted slot is that of the next entry, and a fence is never wanted; and an entry fits exactly if it stands in its entry's slot.
  wanted_entry : (n r p : ℕ) → r < row.slots → index (entry_of (row_slot w row r)) ≡ wanted_at w row n r p
  unfolding entry_next
  wanted_entry n r p some = wanted_index w row n r p some (rw (all_passed p) refl) (none_due n)

  fence_unwanted : (n r p : ℕ) (s : Slot) → fence_kind s.kind ≡ true → is_wanted w row n r p s ≡ false
  unfolding is_wanted nothing_left
  fence_unwanted n r p s f = chosen (ltb r row.slots) refl
    where
      chosen : (b : Bool) → ltb r row.slots ≡ b → (not (nothing_left row r p) && same_slot s (wanted_at w row n r p)) ≡ false
      chosen true e =
          let entry = entry_of (row_slot w row r) in
          rw (← wanted_entry n r p (ltb-true r row.slots e), slots_apart s (index entry) (f ∙ ap not (sym (entry_kind entry))))
          (and_false (not (nothing_left row r p)))
      chosen false e = rw (nothing_left, le-leb row.slots r (ltb-false r row.slots e), all_passed p) refl

  index_fits : (n p : ℕ) (s : Slot) → entry_fits w row n p s ≡ is_index s
  unfolding entry_fits entry_next
  index_fits n p s = rw (none_due n, all_passed p) refl

  -- So the row goes on exactly if its next slot is that of an entry which rises, and it goes on from there.
  goes_bare : (n c : ℕ) (last : Pair) → n < row.slots → goes_on w row n 0 c last ≡
      ((is_index (row_slot w row n) && rises c last (row_slot w row n).pair) && goes_on w row (n + 1) 0 (c + 1) (row_slot w row n).pair)
  goes_bare n c last some = chosen (fence_kind (row_slot w row n).kind) refl
    where
      chosen : (b : Bool) → fence_kind (row_slot w row n).kind ≡ b → goes_on w row n 0 c last ≡
          ((is_index (row_slot w row n) && rises c last (row_slot w row n).pair) && goes_on w row (n + 1) 0 (c + 1) (row_slot w row n).pair)
      chosen true f =
          goes_fence w row n 0 c last some f ∙
          rw (fence_unwanted n (next_entry w row n) 0 (row_slot w row n) f, fence_no_index (row_slot w row n) f) refl
      chosen false f = rw (index_fits n 0 (row_slot w row n)) at (goes_entry w row n 0 c last some f)

  pub bare_goes_on : (n : ℕ) (ok : Bool) (last : Pair) → Bare w row n ok last → n < row.slots →
      Bare w row (n + 1) (ok && (is_index (row_slot w row n) && rises n last (row_slot w row n).pair)) (row_slot w row n).pair
  bare_goes_on n ok last here some =
      let index = is_index (row_slot w row n) in
      let above = rises n last (row_slot w row n).pair in
      record {
        inside = omega arith;
        same =
            here.same ∙
            rw (goes_bare n n last some) (sym (and_assoc ok (index && above) (goes_on w row (n + 1) 0 (n + 1) (row_slot w row n).pair)));
        counted = λ t.
            let f = index_entry (row_slot w row n) (and_left index above (and_right ok (index && above) t)) in
            let more = here.counted (and_left ok (index && above) t) in
            omega (arith, rw (slots_on_first w row n some, entries_entry (row_slot w row n) (slots_on w row (n + 1)) f) at more);
      }

  -- At the row's end it is written exactly if all was right, and its slots are its entries then.
  module _ (n : ℕ) (ok : Bool) (last : Pair) (here : Bare w row n ok last) (end : row.slots ≤ n) where
    pub bare_ends : row_written w row ≡ ok
    unfolding goes_on are_stream rising entries_of
    bare_ends = here.same ∙ rw (slots_on_none w row n end, all_passed 0) (and_true ok)

    pub bare_counted : ok ≡ true → row.slots ≡ length (entries_of (row_slots w row))
    unfolding entries_of
    bare_counted t = omega (arith, here.inside, rw (slots_on_none w row n end) at (here.counted t))
