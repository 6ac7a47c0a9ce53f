-- Theorems that rest on the definitions of specs/.
pub mod Accounts
pub mod Called
pub mod Changed
pub mod Conditions
pub mod Edited
pub mod Sequences
