pub mod OwnLemmas
pub mod TerrainLemmas
