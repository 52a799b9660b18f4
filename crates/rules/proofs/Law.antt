-- The law of a finished tree.
pub mod Step
pub mod Rules
pub mod Whole
pub mod Parents
pub mod Shaped
pub mod Pass
pub mod Sound
pub mod Local
