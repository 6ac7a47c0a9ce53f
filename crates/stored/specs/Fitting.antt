-- The entries of a store whose words are below 2³² fit their words. Assumes nothing.
use Prim.Native.Nat.{ℕ, zero, suc, ◌+◌, ◌*◌, ◌<◌}
use Rattle.std.proofs.Common.{arith}
use Rattle.std.specs.Prelude.{Bool, true, false, List, [], ◌∷◌, ◌++◌, get_or}
use Rattle.laws.specs.Lists.{span, concat}
use Rattle.geometry.specs.declared.Geometry.{Geometry}
use Rattle.geometry.specs.Geometry.{bottom}
use Rattle.slot.specs.declared.Slot.{Slot}
use Rattle.slot.specs.Tag.{page_of}
use Rattle.slot.specs.Slot.{slot_at}
use Rattle.rules.specs.Level.{fence_kind}
use Rattle.rules.specs.Sound.{slots_from, head_slots, page_slots, level_slots, entries_of, tree_of}
use Rattle.geometry.specs.Directory.{pages_of}
use Rattle.rules.specs.Good.{LevelFits, TreeFits, SlotFits, SlotsFit}
use Rattle.layout.specs.Stream.{entry_of}

-- Every word is below 2³².
abbrev pub WordsFit : List ℕ → Type 0
WordsFit w = (i : ℕ) → get_or w i 0 < 4294967296

slots_joined : (ss ts : List Slot) → SlotsFit ss → SlotsFit ts → SlotsFit (ss ++ ts)
unfolding SlotsFit
slots_joined [] ts a b = b
slots_joined (s ∷ ss) ts a b = (a.0, slots_joined ss ts a.1 b)

entries_fit : (ss : List Slot) → SlotsFit ss → LevelFits (entries_of ss)
unfolding SlotsFit entries_of LevelFits
entries_fit [] h = tt
entries_fit (s ∷ ss) h = chosen (fence_kind s.kind) h.0 (entries_fit ss h.1)
  where
    chosen : (b : Bool) → SlotFits s → LevelFits (entries_of ss) → LevelFits (elim b [ true ↦ entries_of ss | false ↦ entry_of s ∷ entries_of ss ])
    chosen true f r = r
    chosen false f r = (f.pair, r)

module _ (g : Geometry) (w : List ℕ) (fits : WordsFit w) where
  slot_fits : (at : ℕ) → SlotFits (slot_at w at)
  unfolding slot_at page_of
  slot_fits at = record { pair = record { badge_fits = fits at; floor_fits = fits (at + 1) }; page = omega (arith, fits (at + 2)) }

  span_fits : (f : ℕ → ℕ) (i n : ℕ) → SlotsFit (span (λ j. slot_at w (f j)) i n)
  unfolding span SlotsFit
  span_fits f i zero = tt
  span_fits f i (suc n) = (slot_fits (f i), span_fits f (suc i) n)

  slots_fit : (at n : ℕ) → SlotsFit (slots_from w at n)
  unfolding slots_from
  slots_fit at n = span_fits (λ j. at + 3 * j) 0 n

  pages_fit : (i p n : ℕ) → SlotsFit (concat (span (page_slots g w i) p n))
  unfolding span concat SlotsFit page_slots
  pages_fit i p zero = tt
  pages_fit i p (suc n) = slots_joined (page_slots g w i p) (concat (span (page_slots g w i) (suc p) n)) (slots_fit _ _) (pages_fit i (suc p) n)

  levels_fit : (i n : ℕ) → TreeFits (span (λ j. entries_of (level_slots g w j)) i n)
  unfolding span TreeFits level_slots
  levels_fit i zero = tt
  levels_fit i (suc n) = (entries_fit (level_slots g w i) (pages_fit i 0 (pages_of g w i)), levels_fit (suc i) n)

  pub tree_fits : TreeFits (tree_of g w)
  unfolding tree_of TreeFits head_slots
  tree_fits = (entries_fit (head_slots g w) (slots_fit _ _), levels_fit 1 (bottom g))
