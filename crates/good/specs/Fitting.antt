-- The slots of a writing fit their words: pairs that are words, and page numbers far below 2³⁰. Assumes nothing.
use Rattle.std.specs.Prelude.{ℕ, zero, suc, ◌+◌, ◌*◌, ◌≤◌, ◌<◌, ◌^◌, List, [], ◌∷◌, map, length, get_or}
use Rattle.std.proofs.Common.{arith}
use Rattle.laws.specs.Lists.{span}
use Rattle.slot.specs.declared.Slot.{Slot}
use Rattle.slot.specs.Pair.{least, Words, least_fits}
use Rattle.rules.specs.Tree.{Entry, Level, Tree}
use Rattle.rules.specs.Level.{index, external, internal, pages_for, first_among, fence_of, fences, weave, paged, over, laid}
use Rattle.rules.specs.Woven.{by_weaving}
use Rattle.rules.specs.Paged.{by_paging}
use Rattle.rules.specs.Laid.{laid_above, laid_alone}
use Rattle.rules.specs.Good.{LevelFits, TreeFits, SlotFits, SlotsFit}

-- An index entry's slot, and a level's without fences.
index_fits : (e : Entry) → Words e.pair → SlotFits (index e)
unfolding index
index_fits e w = record { pair = w; page = omega arith }

entries_fit : (es : Level) → LevelFits es → SlotsFit (map index es)
unfolding LevelFits SlotsFit
entries_fit [] a = tt
entries_fit (e ∷ es) a = (index_fits e a.0, entries_fit es a.1)

-- The slot at a place, also past the end.
slot_fits : (ss : List Slot) (j : ℕ) (d : Slot) → SlotsFit ss → SlotFits d → SlotFits (get_or ss j d)
unfolding SlotsFit
slot_fits [] j d a f = f
slot_fits (s ∷ ss) zero d a f = a.0
slot_fits (s ∷ ss) (suc j) d a f = slot_fits ss j d a.1 f

-- The fences to as many pages as there can be.
least_fence_fits : SlotFits (external least 0)
unfolding external
least_fence_fits = record { pair = least_fits; page = omega arith }

fence_fits : (below : List Slot) (p : ℕ) → p < 2 ^ 30 → SlotsFit below → SlotFits (fence_of (first_among below) p)
unfolding fence_of first_among external
fence_fits below zero h a = least_fence_fits
fence_fits below (suc p) h a = record { pair = (slot_fits below (21 * suc p) (external least 0) a least_fence_fits).pair; page = h }

fences_fit : (below : List Slot) (i n : ℕ) → i + n ≤ 2 ^ 30 → SlotsFit below → SlotsFit (span (fence_of (first_among below)) i n)
unfolding span SlotsFit
fences_fit below i zero h a = tt
fences_fit below i (suc n) h a = (fence_fits below i (omega arith) a, fences_fit below (suc i) n (omega arith) a)

-- Entries woven among them.
weave_fits : (es : Level) (fs : List Slot) → LevelFits es → SlotsFit fs → SlotsFit (weave es fs)
unfolding LevelFits SlotsFit
weave_fits =
    by_weaving (λ es fs row. LevelFits es → SlotsFit fs → SlotsFit row) (λ fs a b. b) (λ e es fs row c ih a b. (index_fits e a.0, ih a.1 b))
    (λ e es f fs row c ih a b. (b.0, ih a b.1))

pub over_fits : (es : Level) (below : List Slot) → pages_for (length below) ≤ 2 ^ 30 → LevelFits es → SlotsFit below → SlotsFit (over es below)
unfolding over fences
over_fits es below h a b = weave_fits es (fences (first_among below) (pages_for (length below))) a (fences_fit below 0 (pages_for (length below)) (omega arith) b)

-- Internal fences put in.
paged_fits : (j last : ℕ) (ss : List Slot) → last < 2 ^ 30 → SlotsFit ss → SlotsFit (paged j last ss)
unfolding SlotsFit internal
paged_fits =
    by_paging (λ j last ss row. last < 2 ^ 30 → SlotsFit ss → SlotsFit row) (λ j last h a. tt)
    (λ j last s ss row k ih h a. (a.0, ih a.0.page a.1))
    (λ last s ss row k ih h a. (record { pair = a.0.pair; page = h }, (a.0, ih h a.1)))
    (λ j last s ss row k n ih h a. (a.0, ih h a.1))

-- The slots of every level.
abbrev FewPages : Tree → Type 0
FewPages t = (i : ℕ) → pages_for (length (get_or (laid t) i [])) ≤ 2 ^ 30

pub laid_fits : (t : Tree) → TreeFits t → FewPages t → (i : ℕ) → SlotsFit (get_or (laid t) i [])
unfolding TreeFits SlotsFit laid
laid_fits [] a few i = tt
laid_fits (es ∷ []) a few zero = rw (laid_alone es) (entries_fit es a.0)
laid_fits (es ∷ []) a few (suc i) = rw (laid_alone es) tt
laid_fits (es ∷ ds ∷ t) a few i = row i fewer (laid_fits (ds ∷ t) a.1 fewer)
  where
    fewer : FewPages (ds ∷ t)
    fewer j = rw (laid_above es ds t) at (few (suc j))

    row : (j : ℕ) → FewPages (ds ∷ t) → ((k : ℕ) → SlotsFit (get_or (laid (ds ∷ t)) k [])) → SlotsFit (get_or (laid (es ∷ ds ∷ t)) j [])
    row zero n fit =
        let below = get_or (laid (ds ∷ t)) 0 [] in
        rw (laid_above es ds t) (paged_fits 0 0 (over es below) (omega arith) (over_fits es below (n 0) a.0 (fit 0)))
    row (suc j) n fit = rw (laid_above es ds t) (fit j)
