pub mod Sorted
pub mod Spots
pub mod Seen
pub mod Whole
pub mod Known
pub mod Levels
pub mod Shallow
