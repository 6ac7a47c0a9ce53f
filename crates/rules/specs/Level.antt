-- The paper's section "How a level is written": a level's slots in a row, pages being 21 slots each. Assumes nothing.
use Rattle.std.specs.Prelude.{ℕ, zero, suc, ◌+◌, ◌*◌, ◌/◌, ◌%◌, max, Bool, true, false, List, [], ◌∷◌, map, length, get_or, take, drop, eqb}
use Rattle.laws.specs.Lists.{span}
use Rattle.slot.specs.declared.Pair.{Pair}
use Rattle.slot.specs.declared.Slot.{Slot}
use Rattle.slot.specs.declared.Kind.{Kind}
use Rattle.slot.specs.declared.Kind.TheVariants.{Normal, Filter, External, Internal}
use Rattle.slot.specs.Pair.{least, before}
use Rattle.rules.specs.Tree.{Entry, Level}
use Rattle.geometry.specs.Places.{slots_in_page}

-- Index entries have page number 0. A fence names a page of the level below.
unfoldable pub index : Entry → Slot
index e = record { pair = e.pair; kind = elim e.normal [ true ↦ Normal | false ↦ Filter ]; page = record { 0 = 0 } }

unfoldable pub external : Pair → ℕ → Slot
external p n = record { pair = p; kind = External; page = record { 0 = n } }

unfoldable pub internal : Pair → ℕ → Slot
internal p n = record { pair = p; kind = Internal; page = record { 0 = n } }

abbrev pub fence_kind : Kind → Bool
fence_kind Normal = false
fence_kind Filter = false
fence_kind External = true
fence_kind Internal = true

-- Every level has at least one page: n slots, 21 to a page.
unfoldable pub pages_for : ℕ → ℕ
pages_for n = max 1 ((n + 20) / slots_in_page)

-- The slots of page p, and the pair in its first slot.
unfoldable pub page_of : List Slot → ℕ → List Slot
page_of slots p = take slots_in_page (drop (slots_in_page * p) slots)

unfoldable pub first_among : List Slot → ℕ → Pair
first_among slots p = (get_or slots (slots_in_page * p) (external least 0)).pair

-- One external fence for each page of the level below. The fence of page 0 carries the least pair, the fence of page p > 0 the pair in
-- that page's first slot.
unfoldable pub fence_of : (ℕ → Pair) → ℕ → Slot
fence_of first zero = external least 0
fence_of first (suc p) = external (first (suc p)) (suc p)

unfoldable pub fences : (ℕ → Pair) → ℕ → List Slot
fences first pages = span (fence_of first) 0 pages

-- Index entries and fences in order: at equal pairs a fence stands before an index entry, so an entry stands right before the first fence
-- still to come that is above it.
unfoldable pub place : Entry → (List Slot → List Slot) → List Slot → List Slot
place e rest [] = index e ∷ rest []
place e rest (f ∷ fs) = elim (before e.pair f.pair) [ true ↦ index e ∷ rest (f ∷ fs) | false ↦ f ∷ place e rest fs ]

unfoldable pub weave : Level → List Slot → List Slot
weave [] = λ fs. fs
weave (e ∷ es) = place e (weave es)

-- Pages are filled left to right. Where an index entry would be first in a page (at j = 0), an internal fence goes before it, with that
-- entry's pair and the page number of the last external fence written.
unfoldable pub paged : ℕ → ℕ → List Slot → List Slot
paged j last [] = []
paged j last (s ∷ ss) =
    elim (fence_kind s.kind) [
      | true ↦ s ∷ paged ((j + 1) % slots_in_page) s.page.0 ss
      | false ↦ elim (eqb j 0) [ true ↦ internal s.pair last ∷ s ∷ paged 2 last ss | false ↦ s ∷ paged ((j + 1) % slots_in_page) last ss ]
    ]

-- A level's entries with a fence for each page of the level below, which is given by its slots.
unfoldable pub over : Level → List Slot → List Slot
over es below = weave es (fences (first_among below) (pages_for (length below)))

-- The bottom holds index entries only; each other level its entries and fences.
unfoldable pub lay_on : Level → List (List Slot) → List (List Slot)
lay_on es [] = map index es ∷ []
lay_on es (below ∷ ss) = paged 0 0 (over es below) ∷ below ∷ ss

unfoldable pub laid : List Level → List (List Slot)
laid [] = []
laid (es ∷ lower) = lay_on es (laid lower)

-- The head has external fences and no internal ones, and is not cut into pages.
unfoldable pub head_on : Level → List (List Slot) → List Slot
head_on es [] = map index es
head_on es (below ∷ ss) = over es below

-- The slots of every level of a tree, the head's first.
unfoldable pub slots_of : List Level → List (List Slot)
slots_of [] = []
slots_of (es ∷ lower) = let ss = laid lower in head_on es ss ∷ ss
