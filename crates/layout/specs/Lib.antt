-- The writing of a level, place by place: a level's slots in words (Words); the writing as a stream, what comes next at a position (Stream); a run
-- of slots and a level's pages as words (Run, Pages).
pub mod Words
pub mod Stream
pub mod Run
pub mod Pages
