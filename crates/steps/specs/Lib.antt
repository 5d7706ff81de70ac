pub mod Entries
pub mod Carries
pub mod Searches
pub mod Promises
