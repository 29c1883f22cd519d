pub mod LineLemmas
mod PointLemmas
