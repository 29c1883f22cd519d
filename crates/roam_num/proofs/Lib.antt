pub mod DigitLemmas
pub mod PlacesLemmas
