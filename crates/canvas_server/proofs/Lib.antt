pub mod Accepts
pub mod Asking
pub mod Tested
pub mod Told
