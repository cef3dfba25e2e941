pub mod Opened
pub mod Stores
pub mod Listed
pub mod Safe
pub mod Rows
pub mod Shelves
pub mod Laws
pub mod Turns
