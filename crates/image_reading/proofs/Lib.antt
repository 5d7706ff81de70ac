pub mod ReadWays
pub mod NodeWays
pub mod HeadWays
