-- What the contracts of the entry points are written in.
pub mod Whole
pub mod Collect
pub mod Steps
