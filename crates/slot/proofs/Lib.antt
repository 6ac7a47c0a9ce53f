-- Theorems that rest on the definitions of specs/.
pub mod Again
pub mod Tag
