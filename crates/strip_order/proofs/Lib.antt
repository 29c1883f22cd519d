pub mod RunLemmas
pub mod LoopLemmas
pub mod PlaceLemmas
pub mod TripleLemmas
