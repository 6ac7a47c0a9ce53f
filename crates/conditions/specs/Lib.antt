-- Conditions 2 and 3 on the calls: any list of calls on a store's words, from a format on. Conditions has the statements; above it stand the
-- definitions that they use, and then the proofs.
--
--   Calls       any calls on a store's words, one after another
--   Lengths     the tests of numbers given and lengths lent
--   Plain       the same calls on a plain set of pairs
--   Seen        as much of what calls came to as the set can answer
--   Ruled       the same calls by the rules
--   Reports     what calls report of pages
--   Changed     an accepted put or drop on the writing of a good state
--   Opened      the opening tests on a store and what stands behind it
--   Edited      put and drop on the writing of a good state
--   Refused     a call that the tests of lengths refuse
--   Stands      a set that stands in words
--   Called      one call where a set stands
--   Sequences   any calls where a set stands
--   Accounts    their counts since the last format, and the pages allowed
--   Numbers     no fault among the replies
--   Formatted   a format of any words
--   Conditions  the statements
pub mod Calls
pub mod Lengths
pub mod Plain
pub mod Seen
pub mod Ruled
pub mod Reports
pub mod Changed
pub mod Opened
pub mod Edited
pub mod Refused
pub mod Stands
pub mod Called
pub mod Sequences
pub mod Accounts
pub mod Numbers
pub mod Formatted
