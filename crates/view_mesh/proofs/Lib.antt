pub mod ExpiryLemmas
pub mod SightLemmas
pub mod BelowLemmas
pub mod WalkLemmas
pub mod CountLemmas
pub mod StillLemmas
pub mod TurnLemmas
