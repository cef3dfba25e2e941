pub mod Frames
pub mod Pausing
