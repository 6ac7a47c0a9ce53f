-- The whole-store test, level by level.
pub mod Levels
