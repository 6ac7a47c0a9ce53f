-- Where the words of a trail stand.
pub mod Places
