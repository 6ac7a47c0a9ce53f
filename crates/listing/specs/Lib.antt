-- A merge of levels that ascend gives the held pairs in order (Merge), the levels from a range's first pair on give the range's (Range), they are
-- written one by one (Writing), what the loop carries (Going), and what it reads at spots (Spots).
pub mod Merge
pub mod Range
pub mod Writing
pub mod Going
pub mod Spots
