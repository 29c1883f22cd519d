pub mod Worlds
pub mod WorldDraws
pub mod Edits
