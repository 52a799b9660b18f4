-- What the proofs of the forms cite.
pub mod Names
