-- Meant for the crates above too.
pub mod Found
pub mod Written
