-- Words that move within a slice (Moves).
pub mod Moves
