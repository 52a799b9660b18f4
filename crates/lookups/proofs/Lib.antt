-- The laws that the functions' proofs cite.
pub mod Refusal
pub mod Descent
