pub mod NextLaws
pub mod PathLaws
pub mod RulesLaws
pub mod ArrayLaws
pub mod RowsLent
