pub mod BehindPointers
