-- A slot and its parts, in the order of reading: the pair order (Pair, Order), tags (Tag), the three words (Slot).
pub mod Pair
pub mod Order
pub mod Tag
pub mod Slot
