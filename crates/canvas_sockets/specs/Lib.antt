pub mod Served
pub mod Turned
