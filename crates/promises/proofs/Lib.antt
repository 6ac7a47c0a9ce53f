-- Theorems that rest on the definitions of specs/.
pub mod Allowed
pub mod Ledger
pub mod Listed
pub mod Pages
pub mod Sets
