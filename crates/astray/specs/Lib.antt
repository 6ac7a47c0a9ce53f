-- Where a level is first wrong: the writings that the head and the levels should be (Places), the first entry that does not rise or is one too
-- many (Rising), and the leftmost of what is found (Wrong).
pub mod Places
pub mod Rising
pub mod Wrong
