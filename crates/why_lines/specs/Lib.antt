-- The lines of a fault (Fault), all lines that tell why (Lines), and their texts by the way that the code takes (Parts).
pub mod Fault
pub mod Lines
pub mod Parts
