pub mod Gap
pub mod Deviation
pub mod Sound
