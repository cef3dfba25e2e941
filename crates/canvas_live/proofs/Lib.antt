pub mod Forms
pub mod Told
