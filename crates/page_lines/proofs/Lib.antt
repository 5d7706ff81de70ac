pub mod LineLaws
pub mod Lowest
pub mod NodePlaces
pub mod NodeByNode
pub mod Gathering
