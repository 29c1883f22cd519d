pub mod Generated
pub mod LineAt
pub mod Written
pub mod Rows
pub mod Laws
