-- Lemmas that the answers share: a number kept where a test passes (Kept), and the derived equality of slots (Same).
pub mod Kept
pub mod Same
