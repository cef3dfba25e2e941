pub mod FieldLemmas
pub mod HeadLines
pub mod HostLemmas
pub mod Laws
pub mod Origins
pub mod Paths
pub mod ResponseLemmas
pub mod Words
