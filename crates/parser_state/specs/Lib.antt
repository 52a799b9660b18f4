-- What the contracts of the reader are written in.
pub mod Represents
pub mod Refines
pub mod Keeps
pub mod Members
pub mod Wherever
