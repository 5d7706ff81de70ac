pub mod Structures
pub mod Running
pub mod EverySearch
pub mod Carrying
pub mod SinceReplaced
pub mod Conserving
