pub mod Desks
pub mod Crashes
