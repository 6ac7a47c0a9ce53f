-- A run of slots: what a pass over it finds (Scan), what its last slot at most a pair tells (Tell).
pub mod Tag
pub mod Scan
pub mod Form
pub mod Tell
pub mod Told
