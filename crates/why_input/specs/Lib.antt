-- What the input is judged as (Input), by the way that the code takes (Judging).
pub mod Input
pub mod Judging
