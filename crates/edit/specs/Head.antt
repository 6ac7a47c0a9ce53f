-- The words after an edit of the head: its used slots move by one, and a slot that is left is erased; other unused words stay as they are.
-- Assumes nothing.
use Prim.Native.Nat.{ℕ, suc, ◌+◌, ◌-◌, ◌≤◌, ◌<◌}
use Rattle.std.proofs.Math.Numerals.{add-one, add-two}
use native.Mathlib.Omega.{arith}
use Rattle.std.specs.Prelude.{◌≡◌, List, [], ◌∷◌, ◌++◌, length, get_or, set}
use Rattle.std.proofs.lemmas.List.Edits.{sets}
use Rattle.std.proofs.Math.Seq.{slice, slice_empty, slice-cons}
use Rattle.laws.specs.Sets.{set_sets_before, sets_before, get_d_sets_before, slice_set_before}
use Rattle.geometry.specs.Places.{head_count_word, head_place, erased}
use Rattle.slot.specs.declared.Slot.{Slot}
use Rattle.slot.specs.Slot.{words_of}
use Rattle.rules.specs.Tree.{Entry}
use Rattle.rules.specs.Level.{index}

-- A slot put in at a place: the words from there to an end move up by a slot.
unfoldable pub slot_in : Slot → ℕ → ℕ → List ℕ → List ℕ
slot_in s place end w = sets w place (words_of s ++ slice place end w)

-- The slot at a place taken out: the words behind it to the end move down by a slot, and three words are erased.
unfoldable pub slot_out : ℕ → ℕ → List ℕ → List ℕ
slot_out place end w = sets w place (slice (place + 3) end w ++ erased ∷ erased ∷ erased ∷ [])

-- The head with an entry inserted after its first `behind` slots, and with the entry of a slot removed; its slot count goes with it.
unfoldable pub entry_added : Entry → ℕ → List ℕ → List ℕ
entry_added e behind w =
    let count = get_or w head_count_word 0 in
    set (slot_in (index e) (head_place behind) (head_place count) w) head_count_word (count + 1)

unfoldable pub entry_removed : ℕ → List ℕ → List ℕ
entry_removed at w =
    let count = get_or w head_count_word 0 in
    set (slot_out (head_place at) (head_place count) w) head_count_word (count - 1)

-- Moving up from the end: one word more, and a slot before what was moved.
module _ (w : List ℕ) (end : ℕ) where
  unfoldable pub moved_up : ℕ → List ℕ
  moved_up i = sets w (i + 3) (slice i end w)

  pub up_begins : w ≡ moved_up end
  unfolding moved_up
  up_begins = rw (slice_empty end w)

  pub up_goes_on : (i : ℕ) → i < end → end ≤ length w → (v : List ℕ) → v ≡ moved_up (i + 1) → set v (i + 3) (get_or v i 0) ≡ moved_up i
  unfolding moved_up
  up_goes_on i h b v e =
      let n : i + 1 + 3 ≡ suc (i + 3) = omega arith in
      rw (e, n, get_d_sets_before w (suc (i + 3)) i (slice (i + 1) end w) 0 (omega arith), set_sets_before w (suc (i + 3)) (i + 3) (slice (i + 1) end w) (get_or w i 0) (omega arith), slice-cons i end w 0 h b, add-one i)

  pub up_ends : (s : Slot) (place : ℕ) (v : List ℕ) → v ≡ moved_up place → sets v place (words_of s) ≡ slot_in s place end w
  unfolding moved_up slot_in words_of
  up_ends s place v e = rw e (sets_before w place (words_of s) (slice place end w))

-- So far as the words from i on are moved.
pub record Rising (w : List ℕ) (place end : ℕ) (v : List ℕ) (i : ℕ) : Type 0 where
  pub not_past : place ≤ i
  pub from_end : i ≤ end
  pub long : length v ≡ length w
  pub moved : v ≡ moved_up w end i

pub record Sinking (w : List ℕ) (place end : ℕ) (v : List ℕ) (i : ℕ) : Type 0 where
  pub not_past : i + 3 ≤ end
  pub long : length v ≡ length w
  pub moves : slot_out i end v ≡ slot_out place end w

-- Moving down from a place: what is left to move goes to the same words.
module _ (end : ℕ) where
  pub down_goes_on : (i : ℕ) (w : List ℕ) → i + 3 < end → end ≤ length w → slot_out (i + 1) end (set w i (get_or w (i + 3) 0)) ≡ slot_out i end w
  unfolding slot_out
  down_goes_on i w h b =
      let n : i + 1 + 3 ≡ suc (i + 3) = omega arith in
      rw (n, slice-cons (i + 3) end w 0 h b, slice_set_before w i (suc (i + 3)) end (get_or w (i + 3) 0) (omega arith) (omega arith), add-one i)

  pub down_ends : (i : ℕ) (w : List ℕ) → i + 3 ≡ end → set (set (set w i erased) (i + 1) erased) (i + 2) erased ≡ slot_out i end w
  unfolding slot_out
  down_ends i w e = rw (e, slice_empty end w, add-one i, add-two i)
