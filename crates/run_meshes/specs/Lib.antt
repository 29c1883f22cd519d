pub mod LeastSeen
pub mod StageView
pub mod Taking
pub mod FittedSeen
