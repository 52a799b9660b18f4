-- What holds of every sheet, and the laws that the functions' proofs cite.
pub mod Length
pub mod Back
pub mod Rows
pub mod Entries
pub mod Taking
pub mod Joining
pub mod Whole
pub mod Writing
pub mod Told
pub mod Examples
