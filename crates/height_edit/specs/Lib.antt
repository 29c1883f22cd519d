pub mod Holders
pub mod Weights
