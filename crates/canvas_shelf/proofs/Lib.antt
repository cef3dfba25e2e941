pub mod Results
pub mod Texts
pub mod Splits
pub mod Beginnings
pub mod Moments
pub mod InMemory
pub mod Left
pub mod Changed
