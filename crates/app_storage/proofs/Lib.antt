mod Copying
pub mod Opens
