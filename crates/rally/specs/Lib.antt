pub mod Faults
pub mod Pages
pub mod Rallied
pub mod Runs
pub mod Words
