-- The paper's section "The sheet program", as far as a sheet is read (Sheet); what the code's answers tell of it (Told), and how its functions'
-- answers follow from those of their calls (Values, Groups, Judging; of a line's end that is sought near, Near).
pub mod Sheet
pub mod Told
pub mod Values
pub mod Groups
pub mod Judging
pub mod Near
