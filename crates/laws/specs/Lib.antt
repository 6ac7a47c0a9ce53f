-- Laws of tests and of lists that speak of nothing of the index.
pub mod Tests
pub mod Lists
pub mod First
pub mod Flat
pub mod Joined
pub mod Sets
pub mod Clauses
