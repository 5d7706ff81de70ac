pub mod Structure
pub mod Sums
