-- Theorems that rest on the definitions of specs/.
pub mod Leaving
pub mod Stands
pub mod Unused
