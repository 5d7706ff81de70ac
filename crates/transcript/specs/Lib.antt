pub mod Transcript
pub mod Promises
