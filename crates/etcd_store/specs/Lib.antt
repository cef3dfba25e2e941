pub mod Chunks
pub mod Errors
pub mod Judging
pub mod Ends
