pub mod CopyLengths
pub mod CopyWriting
pub mod CopyTrips
