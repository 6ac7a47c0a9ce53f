-- Good states: what every state reached from a formatted store is, and what a cascade of merges keeps on its way. Assumes nothing.
use Rattle.std.specs.Prelude.{ℕ, ◌≤◌, ◌<◌, ◌^◌, ◌≡◌, true, List, [], ◌∷◌, length, get_or}
use Rattle.laws.specs.Lists.{all}
use Rattle.geometry.specs.declared.Geometry.{Geometry}
use Rattle.geometry.specs.Geometry.{bottom, most, total, room}
use Rattle.geometry.specs.Places.{head_room}
use Rattle.slot.specs.declared.Slot.{Slot}
use Rattle.slot.specs.Pair.{Words}
use Rattle.rules.specs.Tree.{Level, Tree, level}
use Rattle.rules.specs.Level.{pages_for}
use Rattle.rules.specs.Merging.{State}
use Rattle.rules.specs.Sound.{ascending, within_capacity, alternating, live_right}

-- Every badge and floor of a level, and of a tree, is a word.
unfoldable pub LevelFits : Level → Type 0
LevelFits [] = Unit {0}
LevelFits (e ∷ es) = Words e.pair × LevelFits es

unfoldable pub TreeFits : Tree → Type 0
TreeFits [] = Unit {0}
TreeFits (es ∷ t) = LevelFits es × TreeFits t

-- Each level strictly ascends; level i above the bottom has fewer than cap(i) entries, the bottom at most M; for each pair, its entries from
-- the top down alternate in kind and the lowest is normal; live is the normal entries less the filters, and at most M.
pub record Good (g : Geometry) (s : State) : Type 0 where
  pub levels : length s.tree ≡ g.levels
  pub ascends : all ascending s.tree ≡ true
  pub within : (i : ℕ) → i < g.levels → within_capacity g i (length (level i s.tree)) ≡ true
  pub alternates : alternating s.tree ≡ true
  pub counted : live_right s.live s.tree ≡ true
  pub few : s.live ≤ most g
  pub fit : TreeFits s.tree

-- Where a cascade of merges has come to level i: good, but that the levels above i are empty and level i may hold all of T(i).
pub record Cascading (g : Geometry) (i : ℕ) (s : State) : Type 0 where
  pub levels : length s.tree ≡ g.levels
  pub reaches : i < g.levels
  pub ascends : all ascending s.tree ≡ true
  pub above : (j : ℕ) → j < i → level j s.tree ≡ []
  pub here : i < bottom g → length (level i s.tree) ≤ total g i
  pub at_bottom : i ≡ bottom g → length (level i s.tree) ≤ most g
  pub below : (j : ℕ) → i < j → j < g.levels → within_capacity g j (length (level j s.tree)) ≡ true
  pub alternates : alternating s.tree ≡ true
  pub counted : live_right s.live s.tree ≡ true
  pub few : s.live ≤ most g
  pub fit : TreeFits s.tree

-- What the page rooms were made for: level i above the bottom holds at most T(i), the bottom at most M.
pub record Roomy (g : Geometry) (t : Tree) : Type 0 where
  pub levels : length t ≡ g.levels
  pub upper : (i : ℕ) → i < bottom g → length (level i t) ≤ total g i
  pub lowest : length (level (bottom g) t) ≤ most g

-- A slot whose three parts are words, and slots that all are.
pub record SlotFits (s : Slot) : Type 0 where
  pub pair : Words s.pair
  pub page : s.page.0 < 2 ^ 30

unfoldable pub SlotsFit : List Slot → Type 0
SlotsFit [] = Unit {0}
SlotsFit (s ∷ ss) = SlotFits s × SlotsFit ss

-- The slots of the levels fit their rooms.
pub record Fits (g : Geometry) (ss : List (List Slot)) : Type 0 where
  pub levels : length ss ≡ g.levels
  pub head : length (get_or ss 0 []) ≤ head_room g
  pub rooms : (i : ℕ) → 1 ≤ i → i < g.levels → pages_for (length (get_or ss i [])) ≤ room g i
  pub slots : (i : ℕ) → SlotsFit (get_or ss i [])
