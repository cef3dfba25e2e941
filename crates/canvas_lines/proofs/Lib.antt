pub mod Parts
pub mod Readings
pub mod Spellings
pub mod Splitting
pub mod Unread
