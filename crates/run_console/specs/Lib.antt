pub mod Opened
pub mod Prefix
pub mod Watching
pub mod Asked
pub mod Ending
pub mod Explanation
