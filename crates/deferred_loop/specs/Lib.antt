pub mod Seen
pub mod Log
pub mod Choice
pub mod Kept
pub mod Promise
