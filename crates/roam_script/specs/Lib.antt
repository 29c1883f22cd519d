pub mod FaultNumber
pub mod LineText
pub mod PointText
pub mod Taking
pub mod Laws
