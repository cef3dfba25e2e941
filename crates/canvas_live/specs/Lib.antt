pub mod Presence
pub mod Word
pub mod Words
