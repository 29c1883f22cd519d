pub mod NestLemmas
pub mod FallLemmas
pub mod ReadingLemmas
pub mod CuboidLemmas
pub mod PartLemmas
