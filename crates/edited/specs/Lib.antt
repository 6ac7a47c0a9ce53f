-- An edit of the head in words is the toggle of the head in the rules. Each module uses only those above it.
--
--   Reach     how many slots are at most a pair
--   Woven     an entry toggled in a row of slots
--   Run       a slot put into a run in words, or taken out
--   Written   the head edited in words is the head toggled: `added_written`, `removed_written`
pub mod Reach
pub mod Woven
pub mod Run
pub mod Written
