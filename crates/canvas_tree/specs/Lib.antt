pub mod Shapes
pub mod Stored
pub mod Trees
pub mod Chains
pub mod Reads
pub mod Texts
pub mod Laws
pub mod Headline
