-- What the tool prints (Text), by the way that the code takes (Telling), and that the promise allows one result alone (Unique).
pub mod Text
pub mod Telling
pub mod Unique
