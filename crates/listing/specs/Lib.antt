-- The listing of a reading: its text, and what of it goes into a lent buffer.
pub mod Text
pub mod Lists
pub mod Field
pub mod Listing
