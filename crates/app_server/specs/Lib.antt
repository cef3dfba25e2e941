pub mod Rooms
pub mod Live
pub mod Fetched
pub mod Addresses
pub mod Kicks
