pub mod AtOnce
pub mod Columns
pub mod GoodExactly
pub mod Lending
pub mod Uniqueness
pub mod Values
pub mod Walking
