-- What a sheet prints (Text), and that the promise allows one text alone (Unique); how the text comes into the buffer call by call (Playing), the words
-- that the calls begin with (Zeros), and what the buffer gets (Buffer).
pub mod Text
pub mod Unique
pub mod Playing
pub mod Zeros
pub mod Buffer
