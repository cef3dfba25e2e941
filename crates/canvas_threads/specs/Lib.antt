pub mod Follows
pub mod Histories
pub mod Exchanges
pub mod Laws
pub mod Worked
pub mod Shown
pub mod Errors
pub mod Pushes
