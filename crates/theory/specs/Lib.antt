pub mod Events
pub mod Paper
pub mod Looking
