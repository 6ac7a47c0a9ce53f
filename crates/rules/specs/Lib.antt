-- The paper's rules, section by section, in its order. Read them top to bottom; each uses only those above it and the numbers of
-- geometry (capacity, room, places) and slot (pair, kind, tag).
--
--   Tree      index entries, levels, a tree
--   Level     "How a level is written"
--   Finding   "Finding"
--   Merging   "Putting, dropping, merging"
--   Listing   "List"
--   Store     the writing of a whole store, word by word
--   Sound     "Sound stores"
--   Faults    the numbers and places of faults
--   Faultless laws of a test that finds no fault
--   Found     laws of the first fault of several tests
--   Directed  laws of a right directory
--   Pages     laws of the number of pages that slots take
--   Woven     laws of entries woven with fences
--   Paged     laws of a row cut into pages
--   Laid      laws of the slots of a tree
--   Good      good states, and what a cascade of merges keeps
--   Reading   what reading a store laid out in slots gives
--   Requests  requests one after another
--   Allowance condition 3's most pages
--   Bench     the bench table, proved
pub mod Tree
pub mod Level
pub mod Finding
pub mod Merging
pub mod Listing
pub mod Store
pub mod Sound
pub mod Faults
pub mod Faultless
pub mod Found
pub mod Directed
pub mod Pages
pub mod Woven
pub mod Paged
pub mod Laid
pub mod Good
pub mod Reading
pub mod Requests
pub mod Allowance
pub mod Bench
