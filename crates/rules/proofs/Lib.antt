pub mod Parting
pub mod Judging
