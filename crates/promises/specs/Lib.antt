-- The promises that need no code: what good states and their writings are to each other, and what any requests from a formatted store come to.
--
--   Written     a store is sound exactly if it is the writing of a good state; the walk on it finds
--   Calls       any requests from a formatted store reach good states
--   Plain       a plain set of pairs
--   Answers     put and drop on it
--   Sets        condition 2: the pairs held are those of the plain set
--   Listed      condition 2 of lists
--   Entries     the index entries in the upper levels, on which merges draw
--   Ledger      merges against accepted requests
--   Pages       the pages that a cascade of merges writes
--   Allowed     condition 3: the pages written in all are at most those allowed
pub mod Written
pub mod Calls
pub mod Plain
pub mod Answers
pub mod Sets
pub mod Listed
pub mod Entries
pub mod Ledger
pub mod Pages
pub mod Allowed
