-- The words that bytes make (Bytes), and how they come into lent words one after another (Filling).
pub mod Bytes
pub mod Filling
