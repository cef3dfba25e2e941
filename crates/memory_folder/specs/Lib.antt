pub mod Failing
pub mod Held
pub mod Sound
pub mod Shown
pub mod Left
