-- Replies by number (Reply), the tests that come before all others (Opening), and how a refusal is told (Refused).
pub mod Reply
pub mod Opening
pub mod Refused
