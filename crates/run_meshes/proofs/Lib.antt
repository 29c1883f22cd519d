pub mod StageLemmas
pub mod LeastLemmas
pub mod EndLemmas
pub mod OnlyLemmas
pub mod FittedLemmas
mod KeptLemmas
pub mod TextLemmas
