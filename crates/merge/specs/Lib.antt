-- The words after a level is filled, levels are rebuilt, merged and settled (Filling).
pub mod Filling
pub mod Refilling
pub mod Laid
pub mod Merged
pub mod Settled
pub mod Head
pub mod Runs
pub mod Source
pub mod Joined
pub mod Rebuilding
pub mod Settling
