pub mod Shows
pub mod Kept
pub mod Amended
pub mod EntriesBehind
pub mod Examples
