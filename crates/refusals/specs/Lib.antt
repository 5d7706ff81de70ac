pub mod Given
pub mod Schedules
pub mod Images
pub mod Runs
