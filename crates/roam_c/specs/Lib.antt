pub mod Held
pub mod Handle
pub mod Worlds
