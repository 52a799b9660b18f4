-- The span of a token; the line and column of a position.
pub mod Span
pub mod Position
pub mod LineColumns
