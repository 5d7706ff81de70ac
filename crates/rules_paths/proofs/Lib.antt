pub mod Walking
pub mod Standing
pub mod Resting
pub mod Reaching
pub mod Placing
