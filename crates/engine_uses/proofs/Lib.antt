pub mod FlightLemmas
pub mod StepLemmas
