pub mod Store
pub mod Walk
pub mod Change
pub mod Agreement
pub mod Edit
pub mod Load
pub mod Unload
pub mod Locate
