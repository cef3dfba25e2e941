pub mod Places
pub mod Heap
pub mod Holding
