pub mod Buffers
pub mod ScheduleTrips
pub mod ScheduleReads
pub mod Decode
pub mod Stores
