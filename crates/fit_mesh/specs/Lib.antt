pub mod Grown
pub mod Kept
pub mod Limit
pub mod Log
pub mod Found
pub mod Required
pub mod Splits
pub mod Waiting
