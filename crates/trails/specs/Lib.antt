-- What the trail of a walk shows: the entry that decides, that no line above it has one, and on sound stores that it is the topmost.
--
--   Entry       an index entry of a pair among slots in order: where it stands, and what it has them tell
--   Shown       each line shows in its own slots what it told
--   Decides     on any words: the line that decides, and those that do not
--   Why         so for the lines of a why
--   Topmost     on the writing of a good state: the topmost entry, and the pages of the walk on slots
pub mod Entry
pub mod Shown
pub mod Decides
pub mod Why
pub mod Topmost
