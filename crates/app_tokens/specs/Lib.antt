pub mod Carried
pub mod Claims
pub mod Hmac
pub mod Keys
pub mod Parts
pub mod Rights
pub mod Tokens
