pub mod Climb
pub mod Making
