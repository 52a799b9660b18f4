-- Strict reading accepts every practice sheet, with one root for each line;
-- and what the functions' proofs cite.
pub mod Spelled
pub mod Lexed
pub mod Read
pub mod Sheets
pub mod Stages
pub mod Draws
pub mod Examples
