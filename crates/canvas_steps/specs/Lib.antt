pub mod Back
pub mod Fold
pub mod Again
pub mod Undo
