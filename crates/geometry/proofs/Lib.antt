-- Theorems that rest on the definitions of specs/.
pub mod Apart
pub mod Directory
pub mod Lent
