-- The paper's section "Putting, dropping, merging": the rules on lists of entries, with the pages that each merge writes. Assumes nothing.
use Rattle.std.specs.Prelude.{ℕ, zero, suc, ◌+◌, ◌-◌, true, false, List, [], ◌∷◌, ◌++◌, length, get_or, drop, replicate, ltb}
use Rattle.laws.specs.Lists.{span}
use Rattle.geometry.specs.declared.Geometry.{Geometry}
use Rattle.geometry.specs.Geometry.{bottom, capacity, most}
use Rattle.slot.specs.declared.Pair.{Pair}
use Rattle.slot.specs.declared.Slot.{Slot}
use Rattle.slot.specs.Pair.{before, same}
use Rattle.rules.specs.Tree.{Entry, Level, Tree, level}
use Rattle.rules.specs.Level.{pages_for, page_of, slots_of}
use Rattle.rules.specs.Finding.{held}

-- An entry joins ascending entries in order; an entry of the same pair is there, and the two cancel, whichever of them is the filter.
unfoldable pub toggle : Entry → Level → Level
toggle e [] = e ∷ []
toggle e (f ∷ fs) =
    elim (before e.pair f.pair) [ true ↦ e ∷ f ∷ fs | false ↦ elim (same e.pair f.pair) [ true ↦ fs | false ↦ f ∷ toggle e fs ] ]

-- Two levels' index entries joined in order. The same pair in both cancels; every other entry stays.
unfoldable pub join : Level → Level → Level
join [] fs = fs
join (e ∷ es) fs = toggle e (join es fs)

-- Merging i into i + 1: the level below holds the two joined, and the levels above it fences alone, the head too.
unfoldable pub merge : ℕ → Tree → Tree
merge i t = replicate (suc i) [] ++ join (level i t) (level (suc i) t) ∷ drop (suc (suc i)) t

-- A page given new contents.
pub record PageWrite : Type 0 where
  pub level : ℕ
  pub page : ℕ
  pub slots : List Slot

-- What a merge into i writes: the new pages of level i, then those of levels i − 1 to 1 after it. The slots of the levels are given.
unfoldable pub pages_written : ℕ → List (List Slot) → List PageWrite
pages_written zero ss = []
pages_written (suc i) ss =
    span (λ p. record { level = suc i; page = p; slots = page_of (get_or ss (suc i) []) p }) 0 (pages_for (length (get_or ss (suc i) []))) ++ pages_written i ss

-- A tree after settling, the deepest level merged into (0 for none), and the pages written.
pub record Settled : Type 0 where
  pub tree : Tree
  pub deepest : ℕ
  pub written : List PageWrite

-- Settling level i, with n levels below it: above the bottom it is merged on if it holds cap(i) or more, and the merge is followed by
-- settling the level below.
unfoldable pub settle : Geometry → ℕ → ℕ → Tree → Settled
settle g zero i t = record { tree = t; deepest = i; written = [] }
settle g (suc n) i t =
    elim (ltb (length (level i t)) (capacity g i)) [
      | true ↦ record { tree = t; deepest = i; written = [] }
      | false ↦
          let merged = merge i t in
          let rest = settle g n (suc i) merged in
          record { tree = rest.tree; deepest = rest.deepest; written = pages_written (suc i) (slots_of merged) ++ rest.written }
    ]

-- An entry goes into the head, or cancels the entry of its pair there; then the head is settled.
unfoldable pub toggle_head : Entry → Tree → Tree
toggle_head e [] = []
toggle_head e (head ∷ lower) = toggle e head ∷ lower

unfoldable pub edit : Geometry → Entry → Tree → Settled
edit g e t = settle g (bottom g) 0 (toggle_head e t)

-- What a store stands for: its live pairs and its tree. Formatted, it is the empty set.
pub record State : Type 0 where
  pub live : ℕ
  pub tree : Tree

unfoldable pub formatted : Geometry → State
formatted g = record { live = 0; tree = replicate g.levels [] }

-- The index entries in each level, as one list of four numbers.
unfoldable pub entries : Tree → List ℕ
entries t = span (λ i. length (level i t)) 0 4

-- What a put or drop comes to: the reply's number, the state after it, the deepest level merged into and the pages written.
pub record Outcome : Type 0 where
  pub reply : ℕ
  pub after : State
  pub deepest : ℕ
  pub written : List PageWrite

unfoldable pub refused : ℕ → State → Outcome
refused n s = record { reply = n; after = s; deepest = 0; written = [] }

unfoldable pub done : ℕ → Settled → Outcome
done live s = record { reply = 0; after = record { live = live; tree = s.tree }; deepest = s.deepest; written = s.written }

-- Put of a pair not held: if the head has its filter, remove the filter; else add a normal entry. Held is tested before full.
unfoldable pub put : Geometry → Pair → State → Outcome
put g p s =
    elim (held p s.tree) [
      | true ↦ refused 2 s
      | false ↦
          elim (ltb s.live (most g))
          [ true ↦ done (s.live + 1) (edit g (record { pair = p; normal = true }) s.tree) | false ↦ refused 4 s ]
    ]

-- Drop of a held pair: if the head has its normal entry, remove it; else add a filter.
unfoldable pub remove : Geometry → Pair → State → Outcome
remove g p s =
    elim (held p s.tree)
    [ true ↦ done (s.live - 1) (edit g (record { pair = p; normal = false }) s.tree) | false ↦ refused 3 s ]
