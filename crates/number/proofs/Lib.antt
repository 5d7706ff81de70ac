pub mod Forms
pub mod Ways
pub mod Readings
pub mod Meaning
pub mod Refusals
pub mod Instances
pub mod Reader
pub mod Writer
