-- An edit of the head in the writing of a good state, with another number of live pairs, is the writing of the state whose head is toggled.
-- Assumes nothing.
use Prim.Native.Nat.{ℕ, suc, ◌+◌, ◌-◌, ◌*◌, ◌≤◌, ◌<◌}
use native.Mathlib.Omega.{arith}
use Rattle.std.specs.Prelude.{◌≡◌, refl, Bool, true, get_or, set}
use Rattle.std.proofs.Common.{ap, ◌∙◌}
use mathlib.Core.List.{List, [], ◌∷◌, ◌++◌}
use Rattle.std.proofs.Math.ListN.{length, take, drop, length-append, length-drop}
use Rattle.std.proofs.Math.Seq.{length-take-le}
use Rattle.laws.specs.Lists.{all, all_at}
use Rattle.geometry.specs.declared.Geometry.{Geometry}
use Rattle.geometry.specs.Geometry.{InRange}
use Rattle.geometry.specs.Places.{live_word, head_count_word, head_start, head_place, head_room}
use Rattle.geometry.specs.Apart.{level_one, level_inside}
use Rattle.slot.specs.declared.Slot.{Slot}
use Rattle.rules.specs.Tree.{Entry, Tree, level}
use Rattle.rules.specs.Level.{index, weave, laid, slots_of}
use Rattle.rules.specs.Finding.{absent, met, find}
use Rattle.rules.specs.Merging.{State, toggle, toggle_head}
use Rattle.rules.specs.Store.{laid_out, writing}
use Rattle.rules.specs.Sound.{head_slots, in_order, ascending}
use Rattle.rules.specs.Good.{Good, Fits}
use Rattle.edit.specs.Head.{entry_added, entry_removed}
use Rattle.stored.specs.Parts.{Parts, laid_parts}
use Rattle.stored.specs.Reading.{reads_back}
use Rattle.stored.specs.Replacing.{live_replaced, head_replaced}
use Rattle.stored.specs.Slots.{slots_length}
use Rattle.finding.specs.Rising.{rising_order}
use Rattle.finding.specs.Fences.{fences_over}
use Rattle.finding.specs.Rows.{head_row_lem, head_woven, woven_rising, lower_rows}
use Rattle.good.proofs.Room.{head_takes_one_more}
use Rattle.good.specs.Within.{head_few}
use Rattle.good.proofs.Cascade.{good_fits}
use Rattle.edited.specs.Reach.{reach, reach_within}
use Rattle.edited.specs.Woven.{toggle_weaves_in, toggle_weaves_out, own_reached}
use Rattle.edited.specs.Run.{run_in, run_out}

-- A store that is laid out in slots, with a slot of its head more or less.
module _ (g : Geometry) (live : ℕ) (ss : List (List Slot)) (fit : InRange g) (fits : Fits g ss) where
  abbrev w : List ℕ
  w = laid_out g live ss

  abbrev head : List Slot
  head = get_or ss 0 []

  parts : Parts g live ss w
  parts = laid_parts g live ss fit fits.head

  count_read : get_or w head_count_word 0 ≡ length head
  count_read = (reads_back g live ss fit fits).head_count_lem

  head_inside : head_start + 3 * head_room g ≤ length w
  unfolding head_room
  head_inside = omega (arith, parts.whole, level_one g, level_inside g 0 (omega arith))

  added_laid : (e : Entry) (r : ℕ) → r ≤ length head → suc (length head) ≤ head_room g →
      entry_added e r w ≡ laid_out g live (set ss 0 (take r head ++ index e ∷ drop r head))
  unfolding entry_added head_place
  added_laid e r h more =
      let slots : List Slot = take r head ++ index e ∷ drop r head in
      let n : length slots ≡ length head + 1 =
      length-append (take r head) (index e ∷ drop r head) ∙ omega (arith, length-take-le r head h, length-drop r head) in
      rw (count_read, run_in w head_start (head_room g) head head_inside fits.head parts.head (index e) r h more, ← n)
      (head_replaced g live ss fit fits slots (omega (arith, n)))

  removed_laid : (j : ℕ) → j < length head → entry_removed j w ≡ laid_out g live (set ss 0 (take j head ++ drop (suc j) head))
  unfolding entry_removed head_place
  removed_laid j h =
      let slots : List Slot = take j head ++ drop (suc j) head in
      let n : length slots ≡ length head - 1 =
      length-append (take j head) (drop (suc j) head) ∙ omega (arith, length-take-le j head (omega arith), length-drop (suc j) head) in
      rw (count_read, run_out w head_start (head_room g) head head_inside fits.head parts.head j h, ← n)
      (head_replaced g live ss fit fits slots (omega (arith, n, fits.head)))

-- The head's slots are its entries over the fences below, in order where all levels ascend; where the head is toggled, they alone change.
abbrev fences_below : Tree → List Slot
fences_below t = fences_over (drop 1 (slots_of t))

head_ordered : (t : Tree) → ascending (level 0 t) ≡ true → all ascending t ≡ true → in_order (weave (level 0 t) (fences_below t)) ≡ true
head_ordered t top up = rising_order 0 (weave (level 0 t) (fences_below t)) (woven_rising (level 0 t) (drop 1 (slots_of t)) top (lower_rows t up))

slots_toggled : (e : Entry) (t : Tree) → slots_of (toggle_head e t) ≡ set (slots_of t) 0 (weave (toggle e (level 0 t)) (fences_below t))
unfolding slots_of toggle_head
slots_toggled e [] = refl
slots_toggled e (es ∷ lower) = ap (λ (row : List Slot). row ∷ laid lower) (head_row_lem (toggle e es) (laid lower))

module _ (g : Geometry) (s : State) (e : Entry) (n : ℕ) (fit : InRange g) (good : Good g s) where
  abbrev t : Tree
  t = s.tree

  fits : Fits g (slots_of t)
  fits = good_fits g fit s good

  abbrev up : all ascending t ≡ true
  up = good.ascends

  abbrev row : List Slot
  row = get_or (slots_of t) 0 []

  abbrev behind : ℕ
  behind = reach e.pair row

  abbrev after : State
  after = record { live = n; tree = toggle_head e t }

  row_read : head_slots g (writing g s) ≡ row
  unfolding writing
  row_read = (reads_back g s.live (slots_of t) fit fits).head_slots_lem

  top : ascending (level 0 t) ≡ true
  top = all_at ascending t 0 [] up (omega (arith, slots_length t, fits.levels, fit.levels_least))

  row_in : find e.pair (level 0 t) ≡ absent → weave (toggle e (level 0 t)) (fences_below t) ≡ take behind row ++ index e ∷ drop behind row
  row_in h = rw (head_woven t) (toggle_weaves_in e (level 0 t) (fences_below t) top (head_ordered t top up) h)

  row_out : (b : Bool) → find e.pair (level 0 t) ≡ met b → weave (toggle e (level 0 t)) (fences_below t) ≡ take (behind - 1) row ++ drop behind row
  row_out b h = rw (head_woven t) (toggle_weaves_out e (level 0 t) (fences_below t) top (head_ordered t top up) b h)

  some_reached : (b : Bool) → find e.pair (level 0 t) ≡ met b → 1 ≤ behind
  some_reached b h = rw (head_woven t) (own_reached e (level 0 t) (fences_below t) top (head_ordered t top up) b h)

  pub added_written : find e.pair (level 0 t) ≡ absent →
      set (entry_added e (reach e.pair (head_slots g (writing g s))) (writing g s)) live_word n ≡ writing g after
  unfolding writing
  added_written h =
      let more = head_takes_one_more g fit t fits (head_few g fit s good) in
      rw (row_read, added_laid g s.live (slots_of t) fit fits e behind (reach_within e.pair row) more, slots_toggled e t, row_in h)
      (live_replaced g s.live (set (slots_of t) 0 (take behind row ++ index e ∷ drop behind row)) n)

  pub removed_written : (b : Bool) → find e.pair (level 0 t) ≡ met b →
      set (entry_removed (reach e.pair (head_slots g (writing g s)) - 1) (writing g s)) live_word n ≡ writing g after
  unfolding writing
  removed_written b h =
      let some : 1 ≤ behind = some_reached b h in
      let m : suc (behind - 1) ≡ behind = omega arith in
      rw (row_read, removed_laid g s.live (slots_of t) fit fits (behind - 1) (omega (arith, reach_within e.pair row)), m, slots_toggled e t, row_out b h)
      (live_replaced g s.live (set (slots_of t) 0 (take (behind - 1) row ++ drop behind row)) n)
