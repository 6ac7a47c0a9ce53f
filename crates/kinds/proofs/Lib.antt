-- Theorems that rest on the definitions of specs/.
pub mod Told
