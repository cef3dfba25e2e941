-- Meant for the crates above too.
pub mod Decimals
-- For the calls of this crate alone.
mod Wholes
