-- The numbers of faults, and what a test comes to.
pub mod Numbers
pub mod Judged
