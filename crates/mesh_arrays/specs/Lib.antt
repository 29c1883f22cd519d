pub mod Indices
pub mod Changes
pub mod Below
pub mod Order
pub mod ListChange
pub mod Walk
pub mod List
