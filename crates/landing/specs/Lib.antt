-- The C interface: the numbers that go over it (Numbers), and that each call has one result (Unique).
pub mod Numbers
pub mod Unique
