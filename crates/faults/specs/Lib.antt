-- What the whole-store test tells of a store with a fault (Faults): the number of the first test that fails, and the first place of that number.
-- Read Faults, and from there what it cites.
--
--   Found        tests in order, and the first fault that one of them finds
--   Broken       the first element with which a list breaks a rule
--   Chains       lists in which each element stands in a relation to the one before it
--   Slots        a run of slots with one slot more
--   Head         11: the head
--   Pages        12: the form of pages
--   Places       slots numbered through the pages of a level
--   Standing     the slots where the entries of a level stand
--   Words        the first slot whose words are not those of the writing
--   Miswritten   13: what a wrong writing is
--   HeadWriting  13 in the head
--   LevelWriting 13 in a level
--   Writing      13: what is told of it
--   Kinds        14: kinds, alternation and live across levels
--   Order        the five tests in their order
--   Inside       the place that is told lies inside the store
--   Faults       the theorems
pub mod Found
pub mod Broken
pub mod Chains
pub mod Slots
pub mod Head
pub mod Pages
pub mod Places
pub mod Standing
pub mod Words
pub mod Miswritten
pub mod HeadWriting
pub mod LevelWriting
pub mod Writing
pub mod Kinds
pub mod Order
pub mod Inside
pub mod Faults
