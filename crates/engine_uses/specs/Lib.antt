pub mod Best
pub mod Step
pub mod Worn
