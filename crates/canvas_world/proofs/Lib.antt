-- Meant for the crates above too.
pub mod Growth
pub mod Synced
pub mod Trees
-- For the calls of this crate alone.
mod Placed
mod Posts
mod Taken
mod Served
mod Steps
mod Runs
