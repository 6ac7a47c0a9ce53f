-- The index entries of a run in lent words, from a cursor on (Run), from a pair on (Skip) and from a cursor in one number on (Spot), the runs of
-- a store's levels (Levels), where their entries stand (Placed), and levels that ascend (Ascending), as the tests of soundness show (Ready);
-- entries counted by kind (Counts).
pub mod Four
pub mod Run
pub mod Skip
pub mod Spot
pub mod Levels
pub mod Placed
pub mod Ascending
pub mod Ready
pub mod Counts
