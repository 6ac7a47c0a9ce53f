-- Theorems that rest on the definitions of specs/.
pub mod Calls
pub mod Cascade
pub mod Edit
pub mod Live
pub mod Merge
pub mod Room
pub mod Settle
