-- The head edited in place (Head), and the index entries of each level counted (Counts).
pub mod Head
pub mod Counts
