pub mod Opened
pub mod Pages
pub mod Loaded
