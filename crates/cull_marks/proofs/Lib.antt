pub mod SlopeLemmas
pub mod CornerLemmas
pub mod MarkLemmas
