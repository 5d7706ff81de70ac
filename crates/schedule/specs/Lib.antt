pub mod Schedule
pub mod Running
pub mod Promises
pub mod Workers
