pub mod SaveWays
