pub mod Cuboid
pub mod Plane
pub mod Nesting
