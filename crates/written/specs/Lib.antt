-- Whether the head and each level are their writing, in the order of reading: what is decided (Written); the writing as a stream (Stream);
-- a run of slots and a level's pages in words (Run, Pages); a row of slots and the walk over it (Row, Position), without fences too
-- (Bottom); the tests of words and pages (Tested); that the tests decide it (Decided); that this is what the whole-store test asks (Parts); and that the places lie
-- inside a store (Inside).
pub mod Written
pub mod Row
pub mod Position
pub mod Bottom
pub mod Tested
pub mod Decided
pub mod Parts
pub mod Inside
