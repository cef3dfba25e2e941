pub mod Going
pub mod Unasked
pub mod Texts
pub mod NoTexts
pub mod Begun
pub mod Hearing
pub mod Following
