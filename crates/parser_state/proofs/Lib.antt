-- The laws of the reader's steps.
pub mod Steps
pub mod Leaves
pub mod Cells
pub mod Rounds
pub mod Loops
pub mod Docs
