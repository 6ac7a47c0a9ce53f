-- What an accepted put or drop does to store and work area (Change), what it finds in the head (Head), the head edited in the writing of a good
-- state (Toggled), and what settling the head of a sound store leaves (Settled).
pub mod Change
pub mod Head
pub mod Toggled
pub mod Settled
