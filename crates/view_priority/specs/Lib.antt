pub mod Camera
pub mod Meter
pub mod Bounds
pub mod Scene
