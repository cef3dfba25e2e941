pub mod Results
pub mod Changing
pub mod Keeps
pub mod Leaving
