pub mod Found
pub mod Joined
pub mod Numbered
pub mod Played
pub mod Texts
