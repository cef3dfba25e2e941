pub mod AnswerLemmas
pub mod BodyLemmas
pub mod ChangeLemmas
pub mod HostLemmas
pub mod KeyLemmas
pub mod OwnerLemmas
pub mod PostLemmas
