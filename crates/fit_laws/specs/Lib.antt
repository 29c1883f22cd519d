pub mod PlaneHeight
pub mod Error
pub mod Settled
pub mod Budget
pub mod Required
pub mod Points
pub mod Excess
pub mod Centre
