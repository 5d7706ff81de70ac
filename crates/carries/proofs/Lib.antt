pub mod Mapping
pub mod InPlace
pub mod Carrying
