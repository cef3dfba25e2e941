pub mod Figures
pub mod Pages
pub mod Answers
pub mod Halls
pub mod Tokens
pub mod Leaving
