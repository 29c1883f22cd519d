pub mod Sight
pub mod Expiry
pub mod Advance
pub mod Turn
