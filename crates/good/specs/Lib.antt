-- Good states, and what keeps them so: theorems on lists of entries, from one entry toggled up to a whole cascade of merges.
--
--   Pages       the slots and pages that a level takes
--   Fitting     slots whose parts are words
--   Room        the page rooms suffice
--   Comparing   pairs compared three ways
--   Toggle      an entry toggled into a level
--   Join        two levels joined
--   Alternate   entries that alternate in kind
--   Live        live is the number of pairs held
--   Under       a tree under empty levels
--   Merge       a level merged into the next
--   Within      what a level may hold
--   Cascade     merges one after another
--   Settle      a cascade to its end, a good state
--   Edit        an entry toggled into the head of a good state
--   Calls       put and drop on a good state
--   Format      the formatted state
pub mod Pages
pub mod Fitting
pub mod Room
pub mod Comparing
pub mod Toggle
pub mod Join
pub mod Alternate
pub mod Live
pub mod Under
pub mod Merge
pub mod Within
pub mod Cascade
pub mod Settle
pub mod Edit
pub mod Calls
pub mod Format
