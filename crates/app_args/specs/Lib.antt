pub mod Origins
pub mod Wrong
