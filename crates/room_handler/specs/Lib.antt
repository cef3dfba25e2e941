pub mod Told
pub mod News
pub mod Table
pub mod Links
pub mod Exchanges
pub mod Copies
pub mod Large
pub mod Seats
