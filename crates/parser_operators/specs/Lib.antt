-- What the contracts of the item reader are written in.
pub mod Tests
pub mod Matches
