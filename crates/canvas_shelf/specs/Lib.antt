pub mod Disk
pub mod Moments
pub mod Records
pub mod Shelved
pub mod Failing
pub mod Held
pub mod Sound
pub mod Memory
