-- Laws of the token and error tables.
pub mod Chunks
pub mod Arrays
pub mod Progress
pub mod Records
pub mod Promised
pub mod Same
pub mod Whole
pub mod Examples
