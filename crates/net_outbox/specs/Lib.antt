pub mod Giving
pub mod Unsent
pub mod Texts
pub mod Outboxes
pub mod Patience
