pub mod Blanks
pub mod Blocks
pub mod Counts
pub mod Entering
pub mod Numbering
pub mod Plays
pub mod Scripts
pub mod Shapes
