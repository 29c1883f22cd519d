mod LeafListLemmas
pub mod VertexLemmas
pub mod WeightedLemmas
