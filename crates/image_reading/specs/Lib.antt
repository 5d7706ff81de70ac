pub mod ImageReading
pub mod Workers
