pub mod Hearing
pub mod Queues
