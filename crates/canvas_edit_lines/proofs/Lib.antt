pub mod Blanks
pub mod Pairs
pub mod Shapes
