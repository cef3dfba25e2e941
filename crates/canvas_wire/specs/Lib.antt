pub mod Messages
pub mod Checkpoints
pub mod Heads
pub mod Faults
pub mod Text
pub mod Laws
pub mod Drafts
