pub mod TableLaws
pub mod TableRows
