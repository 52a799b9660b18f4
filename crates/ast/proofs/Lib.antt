-- The laws that the functions' proofs cite.
pub mod AnswerLaws
pub mod LayoutLaws
pub mod Records
pub mod SchemaLaws
pub mod Tabulate
