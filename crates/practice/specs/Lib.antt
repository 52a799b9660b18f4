-- Practice sheets: what is drawn from a seed and its text, how it is written, what is said of it.
pub mod Practice
pub mod Drawing
pub mod Accepted
