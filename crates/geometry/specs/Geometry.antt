-- The paper's section "Geometry": ranges, capacities and page rooms, as the clauses of src/lib.rt cite them. Assumes nothing.
use Rattle.std.specs.Prelude.{ℕ, zero, suc, ◌+◌, ◌-◌, ◌*◌, ◌/◌, ◌^◌, ◌≤◌, Bool, cond, ◌&&◌, List, [], ◌∷◌, leb, ltb, eqb}
use Rattle.geometry.specs.declared.Geometry.{Geometry}

-- n is least..most.
unfoldable pub between : ℕ → ℕ → ℕ → Bool
between least most n = leb least n && leb n most

-- The greatest H, k and l.
abbrev pub most_head : ℕ
most_head = 64

abbrev pub most_ratio : ℕ
most_ratio = 8

abbrev pub most_levels : ℕ
most_levels = 4

-- Head capacity H is 1..64, ratio k is 2..8, levels l is 2..4: as a test, and as what the test shows.
unfoldable pub in_range : Geometry → Bool
in_range g = between 1 most_head g.head && between 2 most_ratio g.ratio && between 2 most_levels g.levels

pub record InRange (g : Geometry) : Type 0 where
  pub head_least : 1 ≤ g.head
  pub head_most : g.head ≤ most_head
  pub ratio_least : 2 ≤ g.ratio
  pub ratio_most : g.ratio ≤ most_ratio
  pub levels_least : 2 ≤ g.levels
  pub levels_most : g.levels ≤ most_levels

-- Level 0 is the head, level l − 1 the bottom.
abbrev pub bottom : Geometry → ℕ
bottom g = g.levels - 1

-- cap(i) = H × kⁱ: index entries only, no fences.
unfoldable pub capacity : Geometry → ℕ → ℕ
capacity g i = g.head * g.ratio ^ i

-- The most live pairs is M = cap(l − 1).
unfoldable pub most : Geometry → ℕ
most g = capacity g (bottom g)

-- T(i) = cap(0) + … + cap(i).
unfoldable pub total : Geometry → ℕ → ℕ
total g zero = capacity g 0
total g (suc i) = total g i + capacity g (suc i)

-- Pg of the level that stands n above the bottom: Pg(l − 1) = M / 21, and Pg(i) = (T(i) + Pg(i + 1)) / 20, both rounded up.
unfoldable pub room_over : Geometry → ℕ → ℕ
room_over g zero = (most g + 20) / 21
room_over g (suc n) = (total g (bottom g - suc n) + room_over g n + 19) / 20

-- Pg(i) for 1 ≤ i ≤ l − 1. The head is not cut into pages, and a level that does not exist has none.
unfoldable pub room : Geometry → ℕ → ℕ
room g i = cond (leb 1 i && ltb i g.levels) (room_over g (bottom g - i)) 0

-- n where level i exists, else 0.
unfoldable pub within : Geometry → ℕ → ℕ → ℕ
within g i n = cond (ltb i g.levels) n 0

-- The four capacities and the four page rooms, 0 for a level that does not exist.
unfoldable pub capacities : Geometry → List ℕ
capacities g = capacity g 0 ∷ capacity g 1 ∷ within g 2 (capacity g 2) ∷ within g 3 (capacity g 3) ∷ []

unfoldable pub rooms : Geometry → List ℕ
rooms g = room g 0 ∷ room g 1 ∷ room g 2 ∷ room g 3 ∷ []

-- Pg of level i, from its capacity, its T and the Pg below it.
unfoldable pub room_of : Geometry → ℕ → ℕ → ℕ → ℕ → ℕ
room_of g i cap tot below = cond (leb g.levels i) 0 (cond (eqb g.levels (i + 1)) ((cap + 20) / 21) ((tot + below + 19) / 20))
