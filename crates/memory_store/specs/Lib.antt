pub mod Failing
pub mod Held
pub mod Shown
pub mod Sound
