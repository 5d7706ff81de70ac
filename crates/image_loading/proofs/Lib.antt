pub mod LoadEnds
pub mod LoadWays
