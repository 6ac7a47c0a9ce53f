-- Where words leave a writing: words grouped into the slots that they belong to (Grouped), whether a slot stands as a writing has it (Stands), and
-- that the first that does not is where the rules' words are left (Leaving); a writing and its slots still to come (Writing), what comes next
-- of them (Ahead), a walk along them (Along), and the search for that slot (Search).
pub mod Grouped
pub mod Stands
pub mod Leaving
pub mod Writing
pub mod Ahead
pub mod Along
pub mod Search
