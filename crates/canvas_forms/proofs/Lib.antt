-- Meant for the crates above too.
pub mod Members
pub mod Forms
pub mod RowForms
pub mod Orders
pub mod Docs
pub mod Ranges
pub mod Texts
pub mod Plain
-- For the calls of this crate alone.
mod RowHeads
mod Tested
mod Positions
mod RowReading
mod SoundTexts
