pub mod Shape
pub mod Codec
pub mod Parts
pub mod ReadList
pub mod Json
pub mod Faults
pub mod Text
pub mod Laws
