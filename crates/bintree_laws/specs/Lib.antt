pub mod Corners
pub mod Pair
pub mod Areas
