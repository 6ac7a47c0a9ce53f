-- Theorems that rest on the definitions of specs/.
pub mod Decides
pub mod NoneDecides
pub mod Entry
pub mod Shown
pub mod Topmost
pub mod Why
