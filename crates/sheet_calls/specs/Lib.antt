-- What the calls of a sheet come to (Calls): that the counts told are those of the store as it stands then (Counts, Answers), what each call adds to the
-- progress (Stepping), and the store that the first call finds (First).
pub mod Calls
pub mod Counts
pub mod Answers
pub mod Stepping
pub mod First
