-- The correction sheet.
pub mod Sheet
pub mod Count
