pub mod Trips
pub mod Limits
