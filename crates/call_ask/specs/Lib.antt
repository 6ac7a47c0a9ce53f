-- Ask on any words (Ask).
pub mod Ask
