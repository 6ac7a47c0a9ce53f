-- The walk of ask on any words: what a page and the head tell (Step), after their tests (Read), level by level (Walk), and with its trail (Trail), as
-- words (Lines), noted on the way (Noting).
pub mod Walked
pub mod Stepping
pub mod Step
pub mod Read
pub mod Walk
pub mod Trail
pub mod Lines
pub mod Noting
