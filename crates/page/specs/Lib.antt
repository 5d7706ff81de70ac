pub mod PageBytes
pub mod Promises
pub mod Workers
