pub mod ImageLengths
pub mod WriteWays
