-- The lines of the levels read (Lines), and how they come into a buffer part by part (Parts) and level by level (Levels).
pub mod Lines
pub mod Parts
pub mod Levels
