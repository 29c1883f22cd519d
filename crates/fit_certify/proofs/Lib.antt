pub mod ReplayLemmas
pub mod SettleLemmas
pub mod MeshLemmas
pub mod KeepingLemmas
