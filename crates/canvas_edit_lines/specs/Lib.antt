pub mod Answers
pub mod Edits
pub mod Heads
pub mod Words
