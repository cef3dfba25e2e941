pub mod Answers
pub mod Held
pub mod Ids
pub mod Mark
pub mod Numbers
pub mod Owned
