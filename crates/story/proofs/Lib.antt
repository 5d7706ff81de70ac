pub mod Refusing
pub mod Demands
pub mod Instances
