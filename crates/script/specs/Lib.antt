-- A number of four bytes, and a geometry of three numbers.
pub mod Word
