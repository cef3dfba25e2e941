-- Meant for the crates above too.
pub mod Maps
pub mod Searched
pub mod Edges
pub mod Standing
pub mod Without
pub mod Props
pub mod Whole
pub mod Laid
pub mod Climbed
pub mod Levels
-- For the calls of this crate alone.
mod Kept
mod Copied
mod Rooted
mod Told
mod Digits
mod Spotted
mod Placing
mod Cuts
mod Walked
mod Nearest
mod Appended
mod Revised
mod Replaced
mod Putting
mod Known
pub mod Shallow
