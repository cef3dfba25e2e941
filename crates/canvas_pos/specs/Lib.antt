pub mod Digits
pub mod Ends
pub mod Fault
pub mod Laws
pub mod Step
