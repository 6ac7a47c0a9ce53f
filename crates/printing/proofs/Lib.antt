-- What the library writes, as the specification says it.
pub mod Written
