-- Writing a level, in the order of reading: what it is written from (Source); two levels' entries joined (Joining); a level's words with
-- slots put behind them (Append); what is still to come, and what the area becomes by it (Coming); the level in a lent area (Writing).
pub mod Source
pub mod Joining
pub mod Append
pub mod Coming
pub mod Writing
