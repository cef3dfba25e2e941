pub mod Told
pub mod Saying
pub mod Sends
