-- Stores that are laid out in slots, in the order of reading: a store part by part (Parts), what reading it gives (Reading), and a level or the
-- head of it laid out anew (Replacing); the slots of a tree (Slots), and
-- the tree read back from them (Back); a level over the pages below as they stand (Over); what the whole-store test tells of a store
-- that has no fault (Fitting, Told), and that the writing of a good state has none (Passes); the two together (Sound).
pub mod Parts
pub mod Reading
pub mod Replacing
pub mod Slots
pub mod Back
pub mod Over
pub mod Fitting
pub mod Told
pub mod Passes
pub mod Sound
