-- An error in words.
pub mod Words
