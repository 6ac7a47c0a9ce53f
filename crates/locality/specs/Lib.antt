-- What an ask depends on.
--
--   Reads       the page that it reads in each lower level
--   Inside      those pages lie inside the store
--   Agree       two stores that agree on what a test or a step of the walk reads give it the same answer
--   Walks       so do their walks
--   Locality    the promise
pub mod Reads
pub mod Inside
pub mod Agree
pub mod Walks
pub mod Locality
