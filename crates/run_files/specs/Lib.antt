pub mod LineStage
pub mod PointStage
pub mod GridStop
