-- Each entry stands over the next of its pair below (Standing), live is the normal entries less the filters (KindCounts), the levels below the
-- top one (Below), what the code reads at spots (Spots), and what it tells (Told).
pub mod Standing
pub mod KindCounts
pub mod Below
pub mod Spots
pub mod Told
