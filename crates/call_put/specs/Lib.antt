-- Put and drop on any words (Edit), how their refusals are told (Refused), and their tests after the walk as the code makes them (Tested).
pub mod Edit
pub mod Refused
pub mod Tested
