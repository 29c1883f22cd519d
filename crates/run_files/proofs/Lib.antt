pub mod InfoLemmas
pub mod ReadingLemmas
pub mod LineStageLemmas
mod PointStageLemmas
