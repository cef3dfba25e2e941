pub mod Stacks
pub mod Touched
pub mod Saved
pub mod PlacedEdits
pub mod OwnEdits
