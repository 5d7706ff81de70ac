pub mod CopyBytes
