pub mod PageLine
pub mod Workers
