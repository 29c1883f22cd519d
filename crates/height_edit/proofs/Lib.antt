pub mod SameLemmas
pub mod WeightLemmas
pub mod HolderLemmas
pub mod MemberLemmas
