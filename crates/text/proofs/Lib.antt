-- The laws that the functions' proofs cite.
pub mod EmitLaws
pub mod Plain
