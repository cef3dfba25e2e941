pub mod Fronts
pub mod Adding
pub mod Boards
pub mod Rises
pub mod Tails
pub mod ReadBack
pub mod Failures
