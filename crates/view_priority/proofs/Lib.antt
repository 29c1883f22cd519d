pub mod RootLemmas
pub mod RatioLemmas
pub mod MoveLemmas
pub mod NestLemmas
pub mod PriorityLemmas
pub mod NewtonLemmas
