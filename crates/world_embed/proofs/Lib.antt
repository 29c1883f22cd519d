pub mod EditLemmas
pub mod PagingLemmas
pub mod WorldLemmas
