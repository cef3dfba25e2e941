pub mod Answered
pub mod Edited
pub mod Faults
pub mod Runs
pub mod Served
pub mod Shown
pub mod Trials
pub mod Words
