-- Each call's tests as a list in the paper's order (Order); that its reply is that of the first that fails, and what a refusal leaves (Ordered,
-- then the statements in Refusals); and that two answers which one promise allows are equal (Unique, UniqueEdit).
pub mod Order
pub mod Ordered
pub mod Refusals
pub mod Unique
pub mod UniqueEdit
