pub mod Behind
pub mod Naming
