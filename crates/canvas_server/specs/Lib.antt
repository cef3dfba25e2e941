pub mod Asked
pub mod Served
pub mod Answered
