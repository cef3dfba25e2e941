pub mod Sizes
pub mod Seen
pub mod Falls
pub mod Range
pub mod Names
pub mod NameErrors
pub mod Props
