pub mod Cover
pub mod Sums
pub mod Mesh
pub mod Conforming
