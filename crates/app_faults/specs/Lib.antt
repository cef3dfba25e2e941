pub mod Causes
pub mod Rows
pub mod Subjects
pub mod Statuses
pub mod Errors
pub mod Told
