pub mod GaugeLemmas
