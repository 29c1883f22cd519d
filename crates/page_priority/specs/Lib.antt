pub mod Loaded
pub mod Scene
