-- The store of the empty set, in the order of reading: the slots of an empty tree (Empty), and its words as they are written (Formatting).
pub mod Empty
pub mod Formatting
