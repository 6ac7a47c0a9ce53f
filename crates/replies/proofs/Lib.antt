-- Theorems that rest on the definitions of specs/.
pub mod Ordered
pub mod Refusals
