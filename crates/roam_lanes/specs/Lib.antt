pub mod Extremes
pub mod Raising
