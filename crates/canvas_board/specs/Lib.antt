pub mod Marks
pub mod Stored
pub mod Rules
pub mod Publishing
pub mod Copies
pub mod News
pub mod Receipts
