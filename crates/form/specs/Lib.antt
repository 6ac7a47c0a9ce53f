-- What a pass over the head and over a page tells.
pub mod Passes
