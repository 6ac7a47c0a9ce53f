-- The lines that a sheet prints (Lines), that of a call and of a level under its name (Named), and those of the levels one by one (Levels).
pub mod Lines
pub mod Named
pub mod Levels
