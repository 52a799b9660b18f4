-- What the numbers and frames of the input are held to.
pub mod Frame
pub mod Tokens
