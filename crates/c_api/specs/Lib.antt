-- What the exported functions return and write.
pub mod LexerCells
pub mod Numbers
pub mod Tables
pub mod Texts
