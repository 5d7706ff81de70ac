pub mod Checked
pub mod Idling
pub mod Slotting
