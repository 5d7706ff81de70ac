pub mod Writing
pub mod Schedules
pub mod Stores
