-- Meant for the crates above too.
pub mod Stored
pub mod Tested
-- For the calls of this crate alone.
mod EntryForms
mod MessageForms
mod CheckpointForms
mod HeadForms
mod Decoding
mod Entry
mod Message
mod CopyTexts
mod ToldTexts
mod Checkpoint
mod Head
mod Row
mod Ranges
mod Texts
