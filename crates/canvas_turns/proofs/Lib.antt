pub mod Joined
pub mod Steps
pub mod Stepping
pub mod Telling
