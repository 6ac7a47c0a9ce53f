-- The paper's section "Geometry": the numbers (Geometry), the places of a store's words (Places), their laws (Bounds, Apart), what the
-- directory says (Directory), a store lent with them (Lent) and the paper's table (Table).
pub mod Geometry
pub mod Places
pub mod Bounds
pub mod Apart
pub mod Directory
pub mod Lent
pub mod Table
