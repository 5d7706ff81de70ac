pub mod Chains
pub mod Buffers
pub mod ByteStrings
pub mod Parts
