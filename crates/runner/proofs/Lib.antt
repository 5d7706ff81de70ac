pub mod RunWays
