pub mod ImageParts
pub mod ImageReads
pub mod ImageBytes
pub mod RoundTrips
pub mod LongestImage
pub mod LongestReached
