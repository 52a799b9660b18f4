-- The laws that the functions' proofs cite; what a reading left is listed as the reading.
pub mod EmitLaws
pub mod LineLaws
pub mod Whole
pub mod Stored
pub mod Holding
