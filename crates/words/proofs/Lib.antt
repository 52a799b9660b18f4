-- What holds of all lines, the laws that the functions' proofs cite, and that every error of a
-- reading has words.
pub mod Tables
mod Bounds
pub mod Forms
pub mod Lines
pub mod Apart
pub mod Parts
pub mod Examples
pub mod Callers
pub mod Errors
pub mod Faults
pub mod Readings
