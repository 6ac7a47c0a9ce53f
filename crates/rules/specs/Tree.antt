-- Index entries, and the tree as lists of them: level 0 is the head, the last the bottom. Assumes nothing.
use Rattle.std.specs.Prelude.{ℕ, Bool, List, [], get_or}
use Rattle.slot.specs.declared.Pair.{Pair}
use Rattle.slot.specs.Pair.{rank}

-- An index entry is a pair, and normal or a filter.
pub record Entry : Type 0 where
  pub pair : Pair
  pub normal : Bool

-- A level's index entries, ascending; a tree's levels, from the top down.
abbrev pub Level : Type 0
Level = List Entry

abbrev pub Tree : Type 0
Tree = List Level

abbrev pub level : ℕ → Tree → Level
level i t = get_or t i []

-- An entry's place in the order of pairs.
abbrev pub rank_of : Entry → ℕ
rank_of e = rank e.pair
