pub mod Tests
pub mod Members
pub mod NameText
pub mod Copied
