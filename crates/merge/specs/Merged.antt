-- On the writing of a tree, merging a level in words gives the writing of the merged tree, with the pages that the rules write. Assumes
-- nothing.
use Prim.Native.Nat.{ℕ, zero, suc, ◌≤◌, ◌<◌}
use Rattle.std.proofs.Common.{arith, subst, ◌∙◌}
use Rattle.std.specs.Prelude.{◌≡◌, true, List, [], length, get_or, drop}
use Rattle.std.proofs.Math.Path.{refl, sym, ap}
use Rattle.geometry.specs.declared.Geometry.{Geometry}
use Rattle.geometry.specs.Geometry.{InRange, room}
use Rattle.slot.specs.declared.Slot.{Slot}
use Rattle.rules.specs.Tree.{Level, Tree, level}
use Rattle.rules.specs.Level.{pages_for, slots_of}
use Rattle.rules.specs.Merging.{join, merge, pages_written}
use Rattle.rules.specs.Store.{laid_out}
use Rattle.rules.specs.Sound.{ascending, level_laid}
use Rattle.rules.specs.Good.{SlotsFit, Fits}
use Rattle.entries.specs.Levels.{head_entries, level_entries}
use Rattle.stored.specs.Slots.{slots_length}
use Rattle.stored.specs.Back.{tree_head, tree_level, tree_back}
use Rattle.finding.specs.Rows.{row_on}
use Rattle.merge.specs.Filling.{run_at, entries_at, joined, filled, filled_pages, merged, merged_pages, Mergeable}
use Rattle.merge.specs.Refilling.{with_row, refill, refill_stays, row_stands, merge_slots, written_next}
use Rattle.merge.specs.Laid.{within_laid, row_laid, row_fits, filled_laid, Rebuilds, rebuilt_laid}

module _ (g : Geometry) (live : ℕ) (fit : InRange g) where
  -- The entries of a level's run are the tree's.
  pub entries_laid : (t : Tree) → Fits g (slots_of t) → (i : ℕ) → i < g.levels → entries_at g (laid_out g live (slots_of t)) i ≡ level i t
  unfolding run_at
  entries_laid t fits zero u =
      let w = laid_out g live (slots_of t) in
      head_entries g w ∙ sym (tree_head g w fit) ∙ ap (level 0) (tree_back g live t fit fits)
  entries_laid t fits (suc i) u =
      let w = laid_out g live (slots_of t) in
      level_entries g w (suc i) ∙ sym (tree_level g w fit (suc i) (omega arith) u) ∙ ap (level (suc i)) (tree_back g live t fit fits)

  pub record Merges (i : ℕ) (t : Tree) : Type 0 where
    pub asked : Mergeable g i (laid_out g live (slots_of t))
    pub words : merged g i (laid_out g live (slots_of t)) ≡ laid_out g live (slots_of (merge i t))
    pub pages : merged_pages g i (laid_out g live (slots_of t)) ≡ length (pages_written (suc i) (slots_of (merge i t)))

  module _ (i : ℕ) (t : Tree) (u : suc i < g.levels) (fits : Fits g (slots_of t)) (after : Fits g (slots_of (merge i t))) where
    abbrev w : List ℕ
    w = laid_out g live (slots_of t)

    abbrev both : Level
    both = join (level i t) (level (suc i) t)

    abbrev made : List (List Slot)
    made = with_row (suc i) both (slots_of t)

    abbrev row : List Slot
    row = row_on both (drop (suc (suc i)) (slots_of t))

    joined_laid : joined g i w ≡ both
    unfolding joined
    joined_laid = rw (entries_laid t fits i (omega arith), entries_laid t fits (suc i) u) refl

    levels_kept : length (slots_of t) ≡ length t
    levels_kept = slots_length t

    refilled : refill i made ≡ slots_of (merge i t)
    refilled = merge_slots i t levels_kept (omega (arith, u, fits.levels, levels_kept))

    row_merged : get_or (slots_of (merge i t)) (suc i) [] ≡ row
    row_merged = ap (λ (ss : List (List Slot)). get_or ss (suc i) []) (sym refilled) ∙ refill_stays i (suc i) made (omega arith) ∙ row_stands (suc i) both (slots_of t) (omega (arith, u, fits.levels))

    enough : pages_for (length row) ≤ room g (suc i)
    enough = subst (λ (s : List Slot). pages_for (length s) ≤ room g (suc i)) row_merged (after.rooms (suc i) (omega arith) u)

    row_told : level_laid g w (suc i) (joined g i w) ≡ row
    row_told = rw joined_laid (row_laid g live fit (slots_of t) fits (suc i) both (omega arith) u)

    next : filled g (suc i) (joined g i w) w ≡ laid_out g live made
    next = rw joined_laid (filled_laid g live fit (slots_of t) fits (suc i) both (omega arith) u)

    rest : Rebuilds g live fit i made
    rest =
        rebuilt_laid g live fit i made (omega (arith, u))
        (row_fits g live fit (slots_of t) fits (suc i) both (omega arith) u enough (subst SlotsFit row_merged (after.slots (suc i))))
        (rw refilled after)

    pub merged_laid : ascending (level i t) ≡ true → ascending (level (suc i) t) ≡ true → Merges i t
    unfolding merged merged_pages filled_pages
    merged_laid upper lower = record {
      asked = record {
        upper_ascends = rw (entries_laid t fits i (omega arith)) upper;
        lower_ascends = rw (entries_laid t fits (suc i) u) lower;
        fills = record { within = within_laid g live fit (slots_of t) fits; enough = rw row_told enough };
        rebuilds = rw next rest.asked;
      };
      words = rw next (rest.words ∙ ap (laid_out g live) refilled);
      pages = rw (next, row_told, rest.pages, refilled) (sym (written_next i (slots_of (merge i t)) ∙ rw row_merged refl));
    }
