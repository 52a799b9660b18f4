-- The laws of the item cycle.
pub mod Levels
