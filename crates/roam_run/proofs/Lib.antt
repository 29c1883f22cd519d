pub mod LeftLemmas
pub mod TryLemmas
