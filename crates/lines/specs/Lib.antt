-- The lines of a text (Lines), the numbers in them (Number) and the first faulty one (Judged); what the code's answers tell of them (Told), how it
-- compares, seeks and counts (Comparing, Seeking, Counting), and how its functions' answers follow from those of their calls (Values).
pub mod Lines
pub mod Number
pub mod Judged
pub mod Told
pub mod Comparing
pub mod Seeking
pub mod Counting
pub mod Values
