-- The walk finds what the tree holds. Each module uses only those above it.
--
--   Rising    slots weigh by pair and kind; a level's weights rise, so slots a page apart differ in pair
--   Woven     the weights of entries woven with fences
--   Paged     a row cut into pages with its internal fences
--   Fences    the fences over a level
--   Rows      the rows of a tree whose levels ascend
--   Formed    the writing of a good state passes the tests of directory, head and pages
--   Telling   what slots tell, from the front on
--   RowTold   what a whole row tells: its level's entry, or the page that its fences lead to
--   PageTold  that page tells what its whole row does
--   Asked     the walk on slots finds the topmost entry: `ask_held`, `ask_decider`
--   Walked    so does the walk on words, with no fault: `walked_finds`
pub mod Rising
pub mod Woven
pub mod Paged
pub mod Fences
pub mod Rows
pub mod Formed
pub mod Telling
pub mod RowTold
pub mod PageTold
pub mod Asked
pub mod Walked
