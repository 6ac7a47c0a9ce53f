-- Check on any words (Check), and list (List).
pub mod Check
pub mod List
