-- Theorems that rest on the definitions of specs/.
pub mod Going
pub mod Merge
pub mod Range
pub mod Spots
