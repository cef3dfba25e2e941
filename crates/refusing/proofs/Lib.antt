mod Counting
mod Handing
pub mod Count
