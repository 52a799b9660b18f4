-- Texts as bytes, and how they go into a lent buffer.
pub mod Text
pub mod Emit
pub mod Answer
