pub mod Left
pub mod Reading
mod Standing
mod Refusing
pub mod Ends
pub mod Openings
pub mod Lines
mod Checked
pub mod OneLine
pub mod RowLines
mod Needless
