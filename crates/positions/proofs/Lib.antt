-- The laws that the functions' proofs cite.
pub mod Many
pub mod Places
pub mod Spans
