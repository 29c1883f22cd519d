pub mod TurnedLemmas
pub mod ChiefLemmas
