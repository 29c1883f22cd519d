pub mod Flights
pub mod Seen
