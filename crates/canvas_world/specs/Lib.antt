pub mod Seen
pub mod Running
pub mod Parts
pub mod Synced
pub mod Trees
