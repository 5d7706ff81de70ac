pub mod TextWriting
pub mod TextWays
pub mod Uniqueness
