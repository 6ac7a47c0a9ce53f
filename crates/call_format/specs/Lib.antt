-- Format on any words (Format).
pub mod Format
