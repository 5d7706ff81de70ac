pub mod PublicCalls
pub mod Following
pub mod Recent
pub mod DeclaredNumbers
pub mod Counts
pub mod Allowed
