-- A row of slots in words, and the slot that the stream wants at each of its positions. Assumes nothing.
use Rattle.std.specs.Prelude.{ℕ, zero, suc, ◌+◌, ◌-◌, ◌*◌, ◌/◌, ◌%◌, ◌≤◌, ◌<◌, ◌≡◌, Bool, true, false, cond, not, ◌&&◌, ◌||◌, List, [], ◌∷◌, length, leb, ltb, eqb}
use Rattle.std.proofs.Common.{sym, ◌∙◌, eqb-true}
use Rattle.std.proofs.lemmas.Bool.{not-true}
use Rattle.laws.specs.Tests.{and_left, and_right}
use Rattle.laws.specs.Lists.{span}
use Rattle.slot.specs.declared.Pair.{Pair}
use Rattle.slot.specs.declared.Slot.{Slot}
use Rattle.slot.specs.Pair.{before}
use Rattle.slot.specs.Slot.{slot_at}
use Rattle.rules.specs.Tree.{Level}
use Rattle.rules.specs.Level.{fence_kind}
use Rattle.rules.specs.Sound.{entries_of, ascending}
use Rattle.written.specs.declared.Row.{Row}
use Rattle.layout.specs.Words.{first_pair}
use Rattle.layout.specs.Stream.{same_slot, entry_of, is_index, entry_next, fenced_at, wanted, are_stream}
use Rattle.geometry.specs.Places.{words_in_page, words_in_slot, slots_in_page}

-- The place of slot n of a row: in pages of 64 words, or slot after slot.
unfoldable pub row_place : Row → ℕ → ℕ
row_place row n = cond row.paged (row.start + words_in_page * (n / slots_in_page) + 1 + words_in_slot * (n % slots_in_page)) (row.start + words_in_slot * n)

unfoldable pub row_slot : List ℕ → Row → ℕ → Slot
row_slot w row n = slot_at w (row_place row n)

-- The pair in the first slot of page p below, as it stands.
unfoldable pub first_below : List ℕ → Row → ℕ → Pair
first_below w row = first_pair w row.below.start

-- A row's slots, and the page heads below, lie inside the words.
pub record RowInside (w : List ℕ) (row : Row) : Type 0 where
  pub slots_inside : (n : ℕ) → n < row.slots → row_place row n + 3 ≤ length w
  pub below_inside : row.below.start + words_in_page * row.below.pages ≤ length w
  pub slots_few : row.slots < 4294967296

-- A row that has no fences: over no pages, and without internal ones.
pub record Unfenced (row : Row) : Type 0 where
  pub none_below : row.below.pages ≡ 0
  pub none_inside : row.fenced ≡ false

pub unfenced_told : (row : Row) (b : Bool) → b ≡ (eqb row.below.pages 0 && not row.fenced) → b ≡ true → Unfenced row
unfenced_told row b e t =
    let told = sym e ∙ t in
    record {
      none_below = eqb-true row.below.pages 0 (and_left (eqb row.below.pages 0) (not row.fenced) told);
      none_inside = not-true row.fenced (and_right (eqb row.below.pages 0) (not row.fenced) told);
    }

-- Whether an entry is above the last one of c before it, and whether entries ascend from there on.
unfoldable pub rises : ℕ → Pair → Pair → Bool
rises c last a = eqb c 0 || before last a

unfoldable pub rising : ℕ → Pair → Level → Bool
rising c last [] = true
rising c last (e ∷ es) = rises c last e.pair && rising (c + 1) e.pair es

-- Neither an entry nor a fence is left.
unfoldable pub nothing_left : Row → ℕ → ℕ → Bool
nothing_left row r p = leb row.slots r && leb row.below.pages p

module _ (w : List ℕ) (row : Row) where
  -- The slots from position n on; all of them; the position of the next entry.
  unfoldable pub slots_on : ℕ → List Slot
  slots_on n = span (row_slot w row) n (row.slots - n)

  unfoldable pub row_slots : List Slot
  row_slots = span (row_slot w row) 0 row.slots

  unfoldable pub entry_in : ℕ → ℕ → ℕ
  entry_in n zero = n
  entry_in n (suc k) = elim (fence_kind (row_slot w row n).kind) [ true ↦ entry_in (n + 1) k | false ↦ n ]

  unfoldable pub next_entry : ℕ → ℕ
  next_entry n = entry_in n (row.slots - n)

  -- The entry at position r, if the row has that position.
  unfoldable pub entry_at : ℕ → Level
  entry_at r = cond (ltb r row.slots) (entry_of (row_slot w row r) ∷ []) []

  -- The slot that the writing has at position n, and whether a slot is it.
  unfoldable pub wanted_at : ℕ → ℕ → ℕ → Slot
  wanted_at n r p = wanted row.fenced (first_below w row) row.below.pages n p (entry_at r)

  unfoldable pub is_wanted : ℕ → ℕ → ℕ → Slot → Bool
  is_wanted n r p s = not (nothing_left row r p) && same_slot s (wanted_at n r p)

  -- Whether an index entry at position n is that slot: no fence is due before it, and its page number is 0.
  unfoldable pub entry_fits : ℕ → ℕ → Slot → Bool
  entry_fits n p s = not (fenced_at row.fenced n) && entry_next (first_below w row) row.below.pages p s.pair && is_index s

  -- Whether the row goes on from position n as the writing of its own entries, which ascend; and whether all of it is that.
  unfoldable pub goes_on : ℕ → ℕ → ℕ → Pair → Bool
  goes_on n p c last = are_stream row.fenced (first_below w row) row.below.pages n p (slots_on n) && rising c last (entries_of (slots_on n))

  unfoldable pub row_written : Bool
  row_written = are_stream row.fenced (first_below w row) row.below.pages 0 0 row_slots && ascending (entries_of row_slots)
