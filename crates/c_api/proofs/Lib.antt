-- What the proofs of the exported functions share; the user's demands and the law of what is
-- delivered.
pub mod Answers
pub mod Calls
pub mod Described
pub mod UniqueReading
pub mod Demands
pub mod Law
